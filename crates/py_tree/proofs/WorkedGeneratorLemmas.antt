-- What small generators tell and may not tell.
use Rattle.std.proofs.Common.{◌≡◌, ℕ, [], ◌∷◌, Some, None, false, refl, inl, inr}
use Rattle.std.specs.Prelude.{pos}
use Rattle.py_objects.specs.declared.refs.PyBaseExceptionRef.{PyBaseExceptionRef}
use Rattle.py_objects.specs.declared.payload.Payload.TheVariants as payload
use Rattle.py_objects.specs.declared.request.Request.TheVariants as request
use Rattle.py_objects.specs.declared.event.ResumeHow.TheVariants as how
use Rattle.py_objects.specs.declared.event.GotAnswer.TheVariants as got
use Rattle.py_objects.specs.Objects.{Obj, HasPayload}
use Rattle.py_objects.specs.Own.{Resumes, Asks, Gets, Yields}
use Rattle.py_tree.specs.Scene.{Scene}
use Rattle.py_tree.specs.Outcome.{RunsSuite}
use Rattle.py_tree.specs.Trace.{EndsBy}
use Rattle.py_tree.specs.WorkedHandlers.{none_object, x_name}
use Rattle.py_tree.specs.WorkedGenerators.{yields_one, guards, one_object, yields_in_finally, YieldedIsTrace, NoOtherYielded, NoneGoesOnAlone, ThrownInIsTrace, NoClauseBeforeStart, NoThrowIntoFunction, ThrownWhileHandling, NoThrowWhereItMayNot}
use Rattle.py_tree.specs.Worked.{shows_behind}
use Rattle.py_tree.proofs.WorkedLemmas.{begun}

pub yielded_is_trace : YieldedIsTrace
yielded_is_trace globals v u =
    (refl, (_, refl, (inr (inr (one_object, refl, inr (2, _, refl, refl, inr (7, how.Send v, _, refl, inr (inr (3, _, refl, refl, inr (8, got.Value u, _, refl, inr (inr (none_object, refl, inr (0, refl)))))))))))))

no_other : (scene : Scene) (k at : ℕ) (v : Obj) → HasPayload scene.objects v (payload.Int (pos 2)) → RunsSuite scene yields_one.suite ((x_name, None) ∷ []) None k (Yields at v ∷ []) (EndsBy scene) → ⊥
no_other scene k at v is_two (inl (n1, c1)) = cc n1
no_other scene k at v is_two (inr (inl (n2, c2))) = cc n2
no_other scene k at v is_two (inr (inr (v2, h2, inl (n3, c3)))) = cc n3
no_other scene k at v is_two (inr (inr (v2, h2, inr (a3, m3, l3, i3, t3)))) = cc (i3, h2, is_two)

pub no_other_yielded : NoOtherYielded
no_other_yielded scene k at v is_two trace = no_other scene k at v is_two (begun scene yields_one _ trace)

no_going_on : (scene : Scene) (k at after : ℕ) (v w : Obj) → RunsSuite scene yields_one.suite ((x_name, None) ∷ []) None k (Yields at v ∷ Asks after (request.Show w) None ∷ []) (EndsBy scene) → ⊥
no_going_on scene k at after v w (inl (n1, c1)) = cc n1
no_going_on scene k at after v w (inr (inl (n2, c2))) = cc n2
no_going_on scene k at after v w (inr (inr (v2, h2, inl (n3, c3)))) = cc n3
no_going_on scene k at after v w (inr (inr (v2, h2, inr (a3, m3, l3, i3, inl (n4, c4))))) = cc (i3, n4)
no_going_on scene k at after v w (inr (inr (v2, h2, inr (a3, m3, l3, i3, inr (k4, w4, m4, i4, t4))))) = cc (i3, i4)

pub none_goes_on_alone : NoneGoesOnAlone
none_goes_on_alone scene k at after v w trace = no_going_on scene k at after v w (begun scene yields_one _ trace)

pub thrown_in_is_trace : ThrownInIsTrace
thrown_in_is_trace objects globals e = (refl, (_, refl, (refl, refl, inr (0, refl))))

pub no_clause_before_start : NoClauseBeforeStart
no_clause_before_start scene k at h e x trace =
    elim (begun scene guards _ trace).2 [ inl none ↦ cc none | inr last ↦ cc last.1 ]

pub no_throw_into_function : NoThrowIntoFunction
no_throw_into_function scene k e trace = cc (begun scene shows_behind _ trace).0

pub thrown_while_handling : ThrownWhileHandling
thrown_while_handling throws globals e f may =
    (refl, (_, refl, (inr (inr (inr (none_object, refl, inr (3, _, refl, refl, inr (4, got.Raise e, _, refl, inr (inr (one_object, refl, inr (5, _, refl, refl, inr (7, how.Throw f, _, refl, (may, inr (0, refl))))))))))))))

-- the events behind the entry, where what is thrown in may not be
no_under : (scene : Scene) (k at l after i : ℕ) (v w : Obj) (e f : PyBaseExceptionRef) → scene.throws_under i (Some e) ≡ false
    → RunsSuite scene yields_in_finally.suite [] None k (Asks at (request.Show v) None ∷ Gets l (got.Raise e) ∷ Yields after w ∷ Resumes i (how.Throw f) ∷ []) (EndsBy scene) → ⊥
no_under scene k at l after i v w e f never (inl (n1, c1)) = cc n1
no_under scene k at l after i v w e f never (inr (inl (n2, c2))) = cc n2
no_under scene k at l after i v w e f never (inr (inr (inl (n3, c3)))) = cc n3
no_under scene k at l after i v w e f never (inr (inr (inr (v3, h3, inl (n4, c4))))) = cc n4
no_under scene k at l after i v w e f never (inr (inr (inr (v3, h3, inr (a4, m4, l4, i4, inl (x4, c4)))))) = cc (i4, x4)
no_under scene k at l after i v w e f never (inr (inr (inr (v3, h3, inr (a4, m4, l4, i4, inr (k4, got.Value w4, r4, j4, t4)))))) = cc (i4, j4)
no_under scene k at l after i v w e f never (inr (inr (inr (v3, h3, inr (a4, m4, l4, i4, inr (k4, got.Stop w4, r4, j4, t4)))))) = t4
no_under scene k at l after i v w e f never (inr (inr (inr (v3, h3, inr (a4, m4, l4, i4, inr (k4, got.Raise w4, r4, j4, inl (n5, c5))))))) = cc (i4, j4, n5)
no_under scene k at l after i v w e f never (inr (inr (inr (v3, h3, inr (a4, m4, l4, i4, inr (k4, got.Raise w4, r4, j4, inr (inl (n6, c6)))))))) = cc (i4, j4, n6)
no_under scene k at l after i v w e f never (inr (inr (inr (v3, h3, inr (a4, m4, l4, i4, inr (k4, got.Raise w4, r4, j4, inr (inr (v6, h6, inl (n7, c7))))))))) = cc (i4, j4, n7)
no_under scene k at l after i v w e f never (inr (inr (inr (v3, h3, inr (a4, m4, l4, i4, inr (k4, got.Raise w4, r4, j4, inr (inr (v6, h6, inr (a7, m7, l7, i7, inl (x7, c7)))))))))) = cc (i4, j4, i7, x7)
no_under scene k at l after i v w e f never (inr (inr (inr (v3, h3, inr (a4, m4, l4, i4, inr (k4, got.Raise w4, r4, j4, inr (inr (v6, h6, inr (a7, m7, l7, i7, inr (k7, how.Start, m8, i8, t8)))))))))) = t8
no_under scene k at l after i v w e f never (inr (inr (inr (v3, h3, inr (a4, m4, l4, i4, inr (k4, got.Raise w4, r4, j4, inr (inr (v6, h6, inr (a7, m7, l7, i7, inr (k7, how.Send w7, m8, i8, t8)))))))))) = cc (i4, j4, i7, i8)
no_under scene k at l after i v w e f never (inr (inr (inr (v3, h3, inr (a4, m4, l4, i4, inr (k4, got.Raise w4, r4, j4, inr (inr (v6, h6, inr (a7, m7, l7, i7, inr (k7, how.Throw f7, m8, i8, (may, t8))))))))))) = cc (i4, j4, i7, i8, may, never)

pub no_throw_where_it_may_not : NoThrowWhereItMayNot
no_throw_where_it_may_not scene k at l after i v w e f never trace = no_under scene k at l after i v w e f never (begun scene yields_in_finally _ trace)
