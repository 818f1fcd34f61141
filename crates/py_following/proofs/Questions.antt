-- What the question of a drive comes to, whichever objects its literals are.
use Rattle.std.proofs.Common.{◌≡◌, ◌∙◌, ℕ, List, Bool, true, false, cond, Some, None, inl, inr, refl, sym, subst, length, nat_le}
use Rattle.std.specs.Prelude.{Option}
use Rattle.std.proofs.lemmas.Option.{same_Some}
use Rattle.py_objects.specs.declared.payload.Payload.{Payload}
use Rattle.py_objects.specs.declared.payload.CoroKind.{CoroKind}
use Rattle.py_objects.specs.declared.error_kind.ErrorKind.TheVariants.{RecursionError}
use Rattle.py_objects.specs.declared.request.Keywords.TheVariants as keywords
use Rattle.py_objects.specs.declared.request.Request.TheVariants as request
use Rattle.py_objects.specs.Objects.{Obj, Name, HasPayload}
use Rattle.py_objects.specs.Values.{is_none}
use Rattle.py_coro.specs.Modes.{Row, Stops as RowStops, Raises as RowRaises, Done as RowDone, Starts as RowStarts, Sends as RowSends, Throws as RowThrows, Exits as RowExits, Refuses as RowRefuses, most_depth, sent}
use Rattle.py_coro.specs.Refusals.{too_deep, word_of}
use Rattle.py_answers.specs.Answers.{Reply, Fails, CallsAs}
use Rattle.py_run.specs.Calls.{Course, Says, Enters, Begins, Sends, Throws, refusal, bound_by, made_at, Setting, course_by, CallsFunction, SendsTo, ComesTo}
use Rattle.py_run.proofs.CoursesLemmas.{comes_as}

-- a call that enters nothing is answered the same with as many other arguments
deep_alike : (b : Bool) (f : Obj) (vs ws : List Obj) (reply : Reply)
    → Says reply ≡ cond b (Says (Fails RecursionError too_deep)) (Enters f vs) → Says reply ≡ cond b (Says (Fails RecursionError too_deep)) (Enters f ws)
deep_alike true f vs ws reply is = is
deep_alike false f vs ws reply is = absurd (cc is)

bound_alike : (text : Option Name) (kind : Option CoroKind) (depth : ℕ) (f : Obj) (vs ws : List Obj) (reply : Reply)
    → Says reply ≡ bound_by text (made_at kind depth (Enters f vs)) → Says reply ≡ bound_by text (made_at kind depth (Enters f ws))
bound_alike (Some text) kind depth f vs ws reply is = is
bound_alike None None depth f vs ws reply is = deep_alike (nat_le most_depth depth) f vs ws reply is
bound_alike None (Some kind) depth f vs ws reply is = absurd (cc is)

pub function_alike : (at : Setting) (objects : List Payload) (f : Obj) (vs ws : List Obj) (reply : Reply) → length ws ≡ length vs
    → CallsFunction at objects f vs (Says reply) → CallsFunction at objects f ws (Says reply)
function_alike at objects f vs ws reply count calls =
    record {
      body = calls.body;
      entry = calls.entry;
      signature = calls.signature;
      signed = calls.signed;
      is =
          bound_alike (refusal calls.body.name calls.signature.params (length ws)) calls.signature.kind at.depth f vs ws reply
          (subst (λ n. Says reply ≡ bound_by (refusal calls.body.name calls.signature.params n) (made_at calls.signature.kind at.depth (Enters f vs))) (sym count) calls.is);
    }

-- so is the question that makes such a call, where what is said at once is said of both
pub call_alike : (at : Setting) (objects : List Payload) (f : Obj) (vs ws : List Obj) (reply : Reply)
    → ((p : Payload) → CallsAs objects f p vs reply → CallsAs objects f p ws reply) → length ws ≡ length vs
    → ComesTo at objects (request.Call f vs keywords.None) (Says reply) → ComesTo at objects (request.Call f ws keywords.None) (Says reply)
call_alike at objects f vs ws reply said count comes = elim (comes_as at objects (request.Call f vs keywords.None) (Says reply) comes) [
  | inl (other, says, (none, (p, entry, calls))) ↦
      let same : other ≡ reply = cc (sym says) in
      inl (reply, refl, (none, (p, entry, said p (subst (λ r. CallsAs objects f p vs r) same calls))))
  | inr (none, calls) ↦ inr (inl (f, ws, refl, function_alike at objects f vs ws reply count calls))
]

-- ---- sends

-- a course that hands nothing to an activation, and raises nothing that was thrown
abbrev pub IsUnhanded : Course → Type 0
IsUnhanded (Says reply) = Unit {0}
IsUnhanded (Enters f vs) = ⊥
IsUnhanded (Begins a) = Unit {0}
IsUnhanded (Sends a v) = ⊥
IsUnhanded (Throws a x) = ⊥

-- a row that hands no value over comes to the same by another value
row_alike : (word : Name) (a : ℕ) (v w : Obj) (row : Row) (c : Course) → IsUnhanded c → c ≡ course_by word a (Sends a v) row → c ≡ course_by word a (Sends a w) row
row_alike word a v w RowStops c free is = is
row_alike word a v w RowRaises c free is = absurd (subst IsUnhanded is free)
row_alike word a v w RowDone c free is = is
row_alike word a v w RowStarts c free is = is
row_alike word a v w RowSends c free is = absurd (subst IsUnhanded is free)
row_alike word a v w RowThrows c free is = absurd (subst IsUnhanded is free)
row_alike word a v w RowExits c free is = absurd (subst IsUnhanded is free)
row_alike word a v w (RowRefuses r) c free is = is

sends_alike : (at : Setting) (objects : List Payload) (g v w : Obj) (p : Payload) (c : Course) → HasPayload objects v p → HasPayload objects w p → IsUnhanded c
    → SendsTo at objects g v c → SendsTo at objects g w c
sends_alike at objects g v w p c has has' free (kind, x, kept, q, entry, is) =
    let same : q ≡ p = same_Some q p (sym entry ∙ has) in
    (kind, x, kept, p, has', row_alike (word_of kind) x.act v w (sent x.mode (is_none p) at.depth) c free (subst (λ r. c ≡ course_by (word_of kind) x.act (Sends x.act v) (sent x.mode (is_none r) at.depth)) same is))

-- so does a send of another object with its payload, where it isn't handed over
pub send_alike : (at : Setting) (objects : List Payload) (g v w : Obj) (p : Payload) (c : Course) → HasPayload objects v p → HasPayload objects w p → IsUnhanded c
    → ComesTo at objects (request.Send g v) c → ComesTo at objects (request.Send g w) c
send_alike at objects g v w p c has has' free comes = elim (comes_as at objects (request.Send g v) c comes) [
  | inl (reply, says, lacks) ↦ inl (reply, says, lacks)
  | inr sends ↦ inr (inr (inr (inl (g, w, refl, sends_alike at objects g v w p c has has' free sends))))
]
