-- What the definitions say of the journals with an entry whose name the script doesn't declare.
use Rattle.std.proofs.Common.{◌≡◌, ◌<◌, ◌≤◌, ◌-◌, ◌++◌, ◌∙◌, ℕ, zero, suc, List, [], ◌∷◌, Some, None, refl, sym, ap, subst, inl, inr, length, lit<, arith}
use Rattle.std.specs.Prelude.{take, codes}
use Rattle.std.proofs.lemmas.List.Elements.{All-nil}
use Rattle.py_objects.specs.declared.payload.Payload.{Payload}
use Rattle.py_objects.specs.declared.payload.Payload.TheVariants as payload
use Rattle.py_objects.specs.declared.payload.ExceptionBody.{ExceptionBody}
use Rattle.py_objects.specs.declared.error_kind.ErrorKind.TheVariants.{NameError}
use Rattle.py_objects.specs.ErrorKinds.{name_of}
use Rattle.py_objects.specs.declared.request.Request.{Request}
use Rattle.py_objects.specs.declared.request.Request.TheVariants as request
use Rattle.py_objects.specs.declared.event.GotAnswer.{GotAnswer}
use Rattle.py_objects.specs.declared.event.GotAnswer.TheVariants as got
use Rattle.py_objects.specs.declared.event.Event.{Event}
use Rattle.py_objects.specs.declared.event.Event.TheVariants as event
use Rattle.py_objects.specs.Objects.{Obj, Name, AllFit, declared}
use Rattle.py_objects.specs.Own.{own_from, told_by}
use Rattle.py_objects.specs.Values.{new_exception}
use Rattle.py_exceptions.specs.Classes.{class_of, first_classes}
use Rattle.py_grammar.specs.Grammar.{Declares, Drives, FunctionDecl, codes_in}
use Rattle.py_grammar.specs.Lines.{lines}
use Rattle.py_grammar.specs.Script.{Spells}
use Rattle.py_lines.specs.declared.drive.DriveLine.TheVariants as drive
use Rattle.py_answers.specs.Answers.{Fails as Refuses, GivesBody, IsRaised, Passes, Reply, This, found, unknown_text}
use Rattle.py_run.specs.Run.{Asking, Plan}
use Rattle.py_run.specs.Coming.{nothing as at_first, Comes, IsReply, Past, setting}
use Rattle.py_run.specs.Past.{past_behind}
use Rattle.py_run.specs.First.{first_objects}
use Rattle.py_meaning.specs.Whole.{plan_of}
use Rattle.py_meaning.specs.Worked.{object, exception, exception_entry, function_entry}
use Rattle.py_meaning.proofs.Behind.{have_classes}
use Rattle.py_meaning.proofs.Journals.{IsPlain, all_fit, are_named, is_of_kind, is_raised, made_exception, reads_of, replied, runs}
use Rattle.py_meaning.proofs.WorkedObjects.{each_at, some_is}
use Rattle.py_core.proofs.Names.{kind_known}
use Rattle.py_core.specs.Runs.{IsCoreRunOf, IsLinkChange, IsLookedUpIn, IsOfDeclared, IsRunAmong, named_objects}
use Rattle.py_core.specs.WorkedLiterals.{decls_with, drives, function_of}
use Rattle.py_core.specs.WorkedNames.{Fails, IsWhole, answering, objects, raising, rest_by, script, suite}
use Rattle.py_core.proofs.FirstNames.{named_with, one_function}
use Rattle.py_core.proofs.Fronts.{front_among}
use Rattle.py_core.proofs.OfScripts.{before_by, by_script, of_script}
use Rattle.py_core.proofs.OneCall.{TellIt, asks, call, told}

pub spelled : Spells (lines script) (decls_with suite) drives
spelled =
    let items = Declares (FunctionDecl (function_of suite)) ∷ Drives (drive.Call (codes "f") []) ∷ [] in
    record {
      items = items;
      reads = reads_of items;
      read = ((refl, tt), ((refl, omega arith), ((refl, tt), ((refl, tt), tt))));
      spelled = refl;
      well = ((refl, (refl, tt)), (refl, tt));
      declared = refl;
      driven = refl;
    }

-- by their names the class has none
abbrev rest : List Payload
rest = rest_by []

abbrev made : List Payload
made = first_objects ++ function_entry (codes "f") 0 ∷ rest

named_are : named_objects (decls_with suite) objects ≡ made
named_are = named_with (decls_with suite) (function_entry (codes "f") 0 ∷ rest_by (codes "C"))

-- so nothing is declared under the name
undeclared : declared made (codes "C") ≡ None
undeclared = refl

fits : AllFit made
fits =
    all_fit (function_entry (codes "f") 0 ∷ rest) refl
    (tt, (tt, (tt, (tt, (tt, (tt, (tt, (made_exception (function_entry (codes "f") 0 ∷ rest) NameError (object 6) (object 5 ∷ []) refl, tt))))))))

-- what the run is of
abbrev plan : Plan
plan = plan_of (codes_in (decls_with suite)) (call ∷ [])

refused : IsRaised made (take 4 raising) NameError (unknown_text (codes "C")) (exception 7)
refused =
    is_raised (function_entry (codes "f") 0 ∷ rest) (take 4 raising) NameError (unknown_text (codes "C")) (object 5) (object 6) (exception 7) refl refl refl
    (refl, (refl, (refl, (refl, tt))))

comes : Comes plan made at_first raising
comes = (
  (refl, refl, lit< tt),
  (
    (refl, (refl, (_, refl, inr (inl (object 0, [], refl, runs _ _ _ _ _ _ _ refl refl refl))))),
    (
      (refl, is_of_kind _ _ _ _ _ _ refl refl refl),
      (
        (refl, refl),
        (
          (refl, (Refuses NameError (unknown_text (codes "C")), (request.Global (object 2) (codes "C"), refl, inl (Refuses NameError (unknown_text (codes "C")), refl, refl)), refused)),
          ((refl, refl), ((refl, refl, inl (Passes (This (exception 7)), inl (_, refl, (refl, refl)), refl)), tt)),
        ),
      ),
    ),
  ),
)

-- the dict of the globals is asked
looked_up : IsLookedUpIn made raising (object 2)
looked_up i act x d own at here = (
  each_at (λ (e : Event). e ≡ event.Ask act (request.Global d x) own at → d ≡ object 2) raising
      (λ e. absurd (cc e), (λ e. absurd (cc e), (λ e. absurd (cc e), (λ e. cc e, (λ e. absurd (cc e), (λ e. absurd (cc e), (λ e. absurd (cc e), tt))))))) i _ here refl,
  ((object 1, object 0) ∷ [], refl),
)

raising_tells : TellIt suite rest raising
unfolding own_from told_by
raising_tells = told suite rest raising refl (refl, (_, refl, inr (inr (0, _, refl, refl, inr (4, got.Raise (exception 7), _, refl, inr (0, refl))))))

raising_among : IsRunAmong (decls_with suite) drives made raising
raising_among = record {
  asked = call ∷ [];
  are_asked = asks suite rest raising;
  globals = object 2;
  looked_up = looked_up;
  run = record { comes = comes; tells = raising_tells; named = are_named made raising fits refl };
  tells = (tt, (tt, (tt, (tt, (tt, (tt, (tt, tt)))))));
}

-- the exception is of a declared class
error_declared : (e : ExceptionBody) → exception_entry NameError 6 ≡ payload.Exception e → IsOfDeclared (decls_with suite) objects e
error_declared e is =
    let class = have_classes (function_entry (codes "f") 0 ∷ rest_by (codes "C")) NameError in
    let same : new_exception (class_of first_classes NameError) (object 6) ≡ e = cc is in
    subst (IsOfDeclared (decls_with suite) objects) same
    (record { name = name_of NameError; mro = class.mro }, class.entry, class.is_declared, kind_known (decls_with suite) NameError)

core_of : (es : List Event) → IsRunAmong (decls_with suite) drives made es → IsCoreRunOf (decls_with suite) drives objects es
core_of es run = record {
  are_objects =
      one_function (function_of suite) (function_entry (codes "f") 0 ∷ rest_by (codes "C")) (object 0, refl, (_, refl)) (
        (λ e is. absurd (cc is)),
        (
          (λ e is. absurd (cc is)),
          (
            (λ e is. absurd (cc is)),
            (
              (λ e is. absurd (cc is)),
              (
                (λ e is. absurd (cc is)),
                (
                  (λ e is. absurd (cc is)),
                  ((λ e is. absurd (cc is)), (error_declared, tt)),
                ),
              ),
            ),
          ),
        ),
      );
  run = subst (λ os. IsRunAmong (decls_with suite) drives os es) (sym named_are) run;
}

pub raising_whole : IsWhole raising
raising_whole s k is = record {
  run = record { run = of_script (decls_with suite) drives s is objects raising (core_of raising raising_among); changes = All-nil IsLinkChange };
  done = record { done = ap length (sym is.driven); idle = refl };
}

-- ---- another answer

tells : (m : ℕ) → m ≤ 4 → TellIt suite rest (take m raising)
unfolding own_from told_by
tells zero low = λ i a at. absurd (cc at)
tells (suc zero) low = λ i a at. absurd (cc at)
tells (suc (suc zero)) low = told suite rest (take 2 raising) refl (refl, (_, refl, tt))
tells (suc (suc (suc zero))) low = told suite rest (take 3 raising) refl (refl, (_, refl, inl (refl, refl)))
tells (suc (suc (suc (suc zero)))) low = told suite rest (take 4 raising) refl (refl, (_, refl, inr (inr (0, _, refl, refl, inl (refl, refl)))))
tells (suc (suc (suc (suc (suc m))))) low = absurd (omega (arith, low))

front : (m : ℕ) → m ≤ 4 → IsCoreRunOf (decls_with suite) drives objects (take m raising)
unfolding raising_among
front m low = core_of (take m raising) (front_among (decls_with suite) drives made raising raising_among m (asks suite rest (take m raising)) (tells m low))

same_front : (i : ℕ) → i < 4 → take (suc i) raising ≡ take (suc i) answering
same_front zero low = refl
same_front (suc zero) low = refl
same_front (suc (suc zero)) low = refl
same_front (suc (suc (suc zero))) low = refl
same_front (suc (suc (suc (suc i)))) low = absurd (omega (arith, low))

-- what is looked up is no call, and asks for nothing of a generator
global_plain : (d : Obj) (x : Name) → IsPlain (request.Global d x)
global_plain d x = record { no_call = λ f vs e. cc; not_handled = λ e. cc; no_send = λ g v e. cc; no_throw = λ g k v e. cc; no_close = λ g e. cc; no_enter = λ m e. cc; no_exit = λ y k v t e. cc }

-- a name under which nothing is declared is answered by NameError
gives_error : (plan : Plan) (store : List Payload) (p : Past) (d : Obj) (x : Name) (w : GotAnswer) → declared store x ≡ None
    → ((reply : Reply) × ((r : Request) × (Some (request.Global d x) ≡ Some r) × IsReply plan store p Asking r reply) × GivesBody store p.events reply w)
    → GivesBody store p.events (Refuses NameError (unknown_text x)) w
gives_error plan store p d x w none (reply, (r, asked, replies), gives) =
    let says = subst (λ (q : Request). IsReply plan store p Asking q reply) (sym (some_is _ _ asked)) replies in
    let is : reply ≡ found x (declared store x) = replied (setting plan p) store (request.Global d x) reply (global_plain d x) says in
    subst (λ (q : Reply). GivesBody store p.events q w) (is ∙ ap (found x) none) gives

class_refused : (m : ℕ) → IsRunAmong (decls_with suite) drives made (take (suc (suc (suc (suc (suc m))))) answering) → ⊥
class_refused m run =
    let plan = plan_of (codes_in (decls_with suite)) run.asked in
    gives_error plan made (past_behind plan at_first (take 4 answering)) (object 2) (codes "C") (got.Value (object 4)) undeclared run.run.comes.1.1.1.1.0.1

pub answering_fails : Fails 4 answering
answering_fails s k is = inl (record {
  there = lit< tt;
  breaks = λ n less within run.
      let long : n ≡ suc (suc (suc (suc (suc (n - 5))))) = omega (arith, less) in
      let of = by_script (decls_with suite) drives s is objects (take n answering) run.run in
      let among = subst (λ os. IsRunAmong (decls_with suite) drives os (take n answering)) named_are of.run in
      class_refused (n - 5) (subst (λ m. IsRunAmong (decls_with suite) drives made (take m answering)) long among);
  before = before_by (decls_with suite) drives s is objects k raising answering 4 front same_front;
})
