-- What the rows of a code may tell is what an activation of it may tell: of compiled code, a trace of its body.
use Rattle.std.proofs.Common.{◌≡◌, suc, List, [], ◌∷◌, ◌++◌, length, Some, refl, sym, ap, ◌∙◌, subst, append-nil}
use Rattle.std.specs.Prelude.{slice_get, map}
use Rattle.py_code.specs.Codes.{Codes}
use Rattle.py_code.specs.declared.code.PyCode.{PyCode}
use Rattle.py_check.specs.declared.note.Note.{Note}
use Rattle.py_objects.specs.declared.payload.Payload.{Payload}
use Rattle.py_objects.specs.declared.payload.Payload.TheVariants as payload
use Rattle.py_objects.specs.declared.payload.FunctionBody.{FunctionBody}
use Rattle.py_objects.specs.declared.edit.Change.{Change}
use Rattle.py_objects.specs.declared.event.Event.{Event}
use Rattle.py_objects.specs.Objects.{Obj}
use Rattle.py_objects.specs.Own.{Own, Makes, own_events}
use Rattle.py_objects.specs.Telling.{ThrowTest, under_any}
use Rattle.py_tree.specs.Scene.{Scene}
use Rattle.py_tree.specs.Trace.{IsTrace}
use Rattle.py_laid.specs.Fits.{Fits, located}
use Rattle.py_tree.proofs.Carry.{traces_carry}
use Rattle.py_grammar.specs.Grammar.{Coded, OfBody, OfRaw}
use Rattle.py_run.specs.Run.{Plan, Posed, Activation, start}
use Rattle.py_run.specs.Coming.{nothing, Comes, EachTells}
use Rattle.py_run.specs.Links.{Lines, LinksCome}
use Rattle.py_vm.specs.RowsOf.{RowsOf, RowsUnder}
use Rattle.py_run.proofs.AddedLinks.{links_otherwise}
use Rattle.py_run.proofs.BoundLemmas.{IsBound, comes_bound}
use Rattle.py_run.proofs.RunLemmas.{comes_front}
use Rattle.py_meaning.specs.Whole.{signature_of, plan_of, Traces, TracesUnder, thrown_in}
use Rattle.py_script.specs.Compiled.{AreCompiled}
use Rattle.py_script.proofs.Declarations.{signed_by}
use Rattle.py_script.proofs.Made.{HasTold, activation_tells}

-- two entries at one place are one
one_body : (b b' : FunctionBody) → Some (payload.Function b) ≡ Some (payload.Function b') → b ≡ b'
one_body b b' is = cc is

one_code : (c c' : PyCode) → Some c ≡ Some c' → c ≡ c'
one_code c c' is = cc is

-- an activation that was made tells what one of its code may where its code's rows tell it, under each test of what is handled where exceptions are
-- thrown in
traced : (throws : ThrowTest) (coded : List Coded) (globals : Obj) (objects : List Payload) (codes : Codes) (act : Activation) (own : List Own) → AreCompiled coded codes
    → IsBound (map signature_of coded) objects act → HasTold own → RowsUnder throws codes globals objects act.function act.args own → TracesUnder throws coded globals objects act.function act.args own
traced throws coded globals objects codes act own compiled bound told (b, has, c, is, closure, closed, (slot, us, s, own_is, run)) = go (signed_by coded bound.body.code bound.signature bound.is_signature)
  where
    place : b.code ≡ bound.body.code
    place = ap (λ (x : FunctionBody). x.code) (one_body b bound.body (sym has ∙ bound.is_function))

    go : (d : Coded) × (slice_get coded bound.body.code ≡ Some d) × (bound.signature.params ≡ (signature_of d).params) → TracesUnder throws coded globals objects act.function act.args own
    go (OfRaw r, at, params) = (b, has, (OfRaw r, ap (slice_get coded) place ∙ at, tt))
    go (OfBody t, at, params) =
        let (k, k_at, k_fits) = compiled.fit bound.body.code (OfBody t) at in
        let same_code : k ≡ c = one_code k c (sym k_at ∙ ap (slice_get codes.codes) (sym place) ∙ is) in
        let (notes, fits) = subst (λ (x : PyCode). (notes : List Note) × Fits codes.names (record { code = x; notes = notes }) t) same_code k_fits in
        let arity : length act.args ≡ length t.params = bound.binds ∙ ap length params in
        let scene : Scene = located c objects globals throws in
        let anywhere : Scene = thrown_in throws objects globals in
        let whole : IsTrace scene t act.args (Makes ∷ us) = fits.traces codes.names globals closure objects throws slot act.args us s ([], sym (append-nil codes.names)) arity run in
        let split : IsTrace scene t act.args ((told.front ∷ told.behind) ++ []) =
        subst (IsTrace scene t act.args) (sym own_is ∙ told.is ∙ sym (append-nil (told.front ∷ told.behind))) whole in
        let front : IsTrace anywhere t act.args (told.front ∷ told.behind) =
        traces_carry scene anywhere t act.args told.front told.behind [] (record { objects = ([], sym (append-nil objects)); globals = refl; units = λ at line is. refl; throws = λ event h is. is }) split in
        (b, has, (OfBody t, ap (slice_get coded) place ∙ at, subst (IsTrace anywhere t act.args) (sym told.is) front))

-- what activations tell by their rows they may tell by their codes
pub tells_traces : (coded : List Coded) (asked : List Posed) (globals : Obj) (objects : List Payload) (codes : Codes) (events : List Event) → AreCompiled coded codes
    → Comes (plan_of coded asked) objects nothing events → EachTells (RowsOf codes globals objects) events → EachTells (Traces coded globals objects) events
tells_traces coded asked globals objects codes events compiled comes tells i a made =
    traced under_any coded globals objects codes a (own_events (suc i) events) compiled (comes_bound (plan_of coded asked) objects events comes i a made) (activation_tells (plan_of coded asked) objects events i a comes made) (tells i a made)

-- who has told has told with more behind it
told_on : (ts more : List Own) → HasTold ts → HasTold (ts ++ more)
told_on ts more told = record { front = told.front; behind = told.behind ++ more; is = ap (λ (l : List Own). l ++ more) told.is }

-- so the links that come by their rows come by their codes
pub links_traced : (coded : List Coded) (asked : List Posed) (globals : Obj) (objects : List Payload) (codes : Codes) (lines : Lines) (changes : List Change) (events : List Event) → AreCompiled coded codes
    → Comes (plan_of coded asked) objects nothing events → LinksCome (λ throws. RowsUnder throws codes globals objects) lines objects changes [] start events
    → LinksCome (λ throws. TracesUnder throws coded globals objects) lines objects changes [] start events
links_traced coded asked globals objects codes lines changes events compiled comes come =
    let plan : Plan = plan_of coded asked in
    links_otherwise (λ throws. RowsUnder throws codes globals objects) (λ throws. TracesUnder throws coded globals objects) lines objects changes [] events
    (λ front back is i x how throws made told.
    let first : Comes plan objects nothing front = comes_front plan objects nothing front back (subst (Comes plan objects nothing) is comes) in
    traced throws coded globals objects codes x _ compiled (comes_bound plan objects front first i x made)
    (told_on (own_events (suc i) front) _ (activation_tells plan objects front i x first made)) told)
    come
