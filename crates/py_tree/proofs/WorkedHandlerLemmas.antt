-- What small trees with handlers tell and may not tell.
use Rattle.std.proofs.Common.{◌≡◌, ℕ, [], ◌∷◌, Some, None, true, false, refl, inl, inr}
use Rattle.py_objects.specs.declared.refs.PyBaseExceptionRef.{PyBaseExceptionRef}
use Rattle.py_objects.specs.declared.payload.Payload.TheVariants as payload
use Rattle.py_objects.specs.declared.request.Request.TheVariants as request
use Rattle.py_objects.specs.declared.event.GotAnswer.TheVariants as got
use Rattle.py_objects.specs.Objects.{Obj, HasPayload, as_object}
use Rattle.py_objects.specs.Own.{Asks, Gets}
use Rattle.py_tree.specs.Scene.{Scene}
use Rattle.py_tree.specs.Outcome.{RunsSuite}
use Rattle.py_tree.specs.Trace.{EndsBy}
use Rattle.py_tree.specs.Worked.{e_name}
use Rattle.py_tree.specs.WorkedHandlers.{none_object, shows_twice, FinallyHandles, NoFinallyForgets, passes_over, RaisedAgain, NotByTheClause, NameIsForgotten}
use Rattle.py_tree.proofs.WorkedLemmas.{begun}

pub finally_handles : FinallyHandles
finally_handles globals u e =
    (refl, (_, refl, (inr (inr (inr (none_object, refl, inr (3, _, refl, refl, inr (4, got.Raise e, _, refl, inr (inr (none_object, refl, inr (5, _, refl, refl, inr (6, got.Value u, _, refl, inr (inr (9, refl))))))))))))))

-- the events behind the entry, where the second show asks while nothing is handled
no_own : (scene : Scene) (k at l after : ℕ) (v : Obj) (e : PyBaseExceptionRef)
    → RunsSuite scene shows_twice.suite [] None k (Asks at (request.Show v) None ∷ Gets l (got.Raise e) ∷ Asks after (request.Show v) None ∷ []) (EndsBy scene) → ⊥
no_own scene k at l after v e (inl (n1, c1)) = cc n1
no_own scene k at l after v e (inr (inl (n2, c2))) = cc n2
no_own scene k at l after v e (inr (inr (inl (n3, c3)))) = cc n3
no_own scene k at l after v e (inr (inr (inr (v3, h3, inl (n4, c4))))) = cc n4
no_own scene k at l after v e (inr (inr (inr (v3, h3, inr (a4, m4, l4, i4, inl (x4, c4)))))) = cc (i4, x4)
no_own scene k at l after v e (inr (inr (inr (v3, h3, inr (a4, m4, l4, i4, inr (k4, got.Value w4, r4, j4, t4)))))) = cc (i4, j4)
no_own scene k at l after v e (inr (inr (inr (v3, h3, inr (a4, m4, l4, i4, inr (k4, got.Stop w4, r4, j4, t4)))))) = t4
no_own scene k at l after v e (inr (inr (inr (v3, h3, inr (a4, m4, l4, i4, inr (k4, got.Raise w4, r4, j4, inl (n5, c5))))))) = cc (i4, j4, n5)
no_own scene k at l after v e (inr (inr (inr (v3, h3, inr (a4, m4, l4, i4, inr (k4, got.Raise w4, r4, j4, inr (inl (n6, c6)))))))) = cc (i4, j4, n6)
no_own scene k at l after v e (inr (inr (inr (v3, h3, inr (a4, m4, l4, i4, inr (k4, got.Raise w4, r4, j4, inr (inr (v6, h6, inl (n7, c7))))))))) = cc (i4, j4, n7)
no_own scene k at l after v e (inr (inr (inr (v3, h3, inr (a4, m4, l4, i4, inr (k4, got.Raise w4, r4, j4, inr (inr (v6, h6, inr (a7, m7, l7, i7, t7))))))))) = cc (i4, j4, i7)

pub no_finally_forgets : NoFinallyForgets
no_finally_forgets scene k at l after v e trace = no_own scene k at l after v e (begun scene shows_twice _ trace)

pub raised_again : RaisedAgain
raised_again globals w m e = (
  refl,
  (
    _,
    refl,
    inr (inr (inr (
      none_object,
      refl,
      inr (
        3,
        _,
        refl,
        refl,
        inr (
          4,
          got.Raise e,
          _,
          refl,
          inr (
            4,
            _,
            refl,
            refl,
            inr (
              6,
              got.Value w,
              _,
              refl,
              inr (
                4,
                _,
                refl,
                refl,
                inr (
                  8,
                  got.Value m,
                  _,
                  refl,
                  inr (
                    4,
                    _,
                    refl,
                    refl,
                    inr (
                      10,
                      got.Value (record { number = 2 }),
                      _,
                      refl,
                      (
                        false,
                        refl,
                        inr (2, _, refl, refl, inr (11, got.Value (as_object e), _, refl, inr (0, refl))),
                      ),
                    ),
                  ),
                ),
              ),
            ),
          ),
        ),
      ),
    ))),
  ),
)

-- the events behind the entry, where a unit that isn't of the try's line asks what is handled
no_line : (scene : Scene) (k a1 a2 a3 a4 l1 l2 l3 l4 : ℕ) (v w m u : Obj) (e : PyBaseExceptionRef) → scene.is_of 4 2 ≡ false → HasPayload scene.objects u (payload.Bool false)
    → RunsSuite scene passes_over.suite [] None k
    (Asks a1 (request.Show v) None ∷ Gets l1 (got.Raise e) ∷ Asks a2 (request.Global scene.globals e_name) (Some e) ∷ Gets l2 (got.Value w) ∷ Asks a3 (request.Match (as_object e) w) (Some e) ∷ Gets l3 (got.Value m)
    ∷ Asks a4 (request.Truth m) (Some e) ∷ Gets l4 (got.Value u) ∷ Asks 4 request.Handled (Some e) ∷ []) (EndsBy scene) → ⊥
no_line scene k a1 a2 a3 a4 l1 l2 l3 l4 v w m u e is_at is_false (inl (n1, c1)) = cc n1
no_line scene k a1 a2 a3 a4 l1 l2 l3 l4 v w m u e is_at is_false (inr (inl (n2, c2))) = cc n2
no_line scene k a1 a2 a3 a4 l1 l2 l3 l4 v w m u e is_at is_false (inr (inr (inl (n3, c3)))) = cc n3
no_line scene k a1 a2 a3 a4 l1 l2 l3 l4 v w m u e is_at is_false (inr (inr (inr (v3, h3, inl (n4, c4))))) = cc n4
no_line scene k a1 a2 a3 a4 l1 l2 l3 l4 v w m u e is_at is_false (inr (inr (inr (v3, h3, inr (b4, m4, o4, i4, inl (x4, c4)))))) = cc (i4, x4)
no_line scene k a1 a2 a3 a4 l1 l2 l3 l4 v w m u e is_at is_false (inr (inr (inr (v3, h3, inr (b4, m4, o4, i4, inr (k4, got.Value w4, r4, j4, t4)))))) = cc (i4, j4)
no_line scene k a1 a2 a3 a4 l1 l2 l3 l4 v w m u e is_at is_false (inr (inr (inr (v3, h3, inr (b4, m4, o4, i4, inr (k4, got.Stop w4, r4, j4, t4)))))) = t4
no_line scene k a1 a2 a3 a4 l1 l2 l3 l4 v w m u e is_at is_false (inr (inr (inr (v3, h3, inr (b4, m4, o4, i4, inr (k4, got.Raise w4, r4, j4, inl (n5, c5))))))) = cc (i4, j4, n5)
no_line scene k a1 a2 a3 a4 l1 l2 l3 l4 v w m u e is_at is_false (inr (inr (inr (v3, h3, inr (b4, m4, o4, i4, inr (k4, got.Raise w4, r4, j4, inr (b5, m5, o5, i5, inl (x5, c5)))))))) = cc (i4, j4, i5, x5)
no_line scene k a1 a2 a3 a4 l1 l2 l3 l4 v w m u e is_at is_false (inr (inr (inr (v3, h3, inr (b4, m4, o4, i4, inr (k4, got.Raise w4, r4, j4, inr (b5, m5, o5, i5, inr (k5, got.Raise w5, r5, j5, t5)))))))) = cc (i4, j4, i5, j5)
no_line scene k a1 a2 a3 a4 l1 l2 l3 l4 v w m u e is_at is_false (inr (inr (inr (v3, h3, inr (b4, m4, o4, i4, inr (k4, got.Raise w4, r4, j4, inr (b5, m5, o5, i5, inr (k5, got.Stop w5, r5, j5, t5)))))))) = t5
no_line scene k a1 a2 a3 a4 l1 l2 l3 l4 v w m u e is_at is_false (inr (inr (inr (v3, h3, inr (b4, m4, o4, i4, inr (k4, got.Raise w4, r4, j4, inr (b5, m5, o5, i5, inr (k5, got.Value w5, r5, j5, inl (n6, c6))))))))) = cc (i4, j4, i5, j5, n6)
no_line scene k a1 a2 a3 a4 l1 l2 l3 l4 v w m u e is_at is_false (inr (inr (inr (v3, h3, inr (b4, m4, o4, i4, inr (k4, got.Raise w4, r4, j4, inr (b5, m5, o5, i5, inr (k5, got.Value w5, r5, j5, inr (b6, m6, o6, i6, inl (x6, c6)))))))))) = cc (i4, j4, i5, j5, i6, x6)
no_line scene k a1 a2 a3 a4 l1 l2 l3 l4 v w m u e is_at is_false (inr (inr (inr (v3, h3, inr (b4, m4, o4, i4, inr (k4, got.Raise w4, r4, j4, inr (b5, m5, o5, i5, inr (k5, got.Value w5, r5, j5, inr (b6, m6, o6, i6, inr (k6, got.Raise w6, r6, j6, t6)))))))))) = cc (i4, j4, i5, j5, i6, j6)
no_line scene k a1 a2 a3 a4 l1 l2 l3 l4 v w m u e is_at is_false (inr (inr (inr (v3, h3, inr (b4, m4, o4, i4, inr (k4, got.Raise w4, r4, j4, inr (b5, m5, o5, i5, inr (k5, got.Value w5, r5, j5, inr (b6, m6, o6, i6, inr (k6, got.Stop w6, r6, j6, t6)))))))))) = t6
no_line scene k a1 a2 a3 a4 l1 l2 l3 l4 v w m u e is_at is_false (inr (inr (inr (v3, h3, inr (b4, m4, o4, i4, inr (k4, got.Raise w4, r4, j4, inr (b5, m5, o5, i5, inr (k5, got.Value w5, r5, j5, inr (b6, m6, o6, i6, inr (k6, got.Value w6, r6, j6, inl (n7, c7))))))))))) = cc (i4, j4, i5, j5, i6, j6, n7)
no_line scene k a1 a2 a3 a4 l1 l2 l3 l4 v w m u e is_at is_false (inr (inr (inr (v3, h3, inr (b4, m4, o4, i4, inr (k4, got.Raise w4, r4, j4, inr (b5, m5, o5, i5, inr (k5, got.Value w5, r5, j5, inr (b6, m6, o6, i6, inr (k6, got.Value w6, r6, j6, inr (b7, m7, o7, i7, inl (x7, c7)))))))))))) = cc (i4, j4, i5, j5, i6, j6, i7, x7)
no_line scene k a1 a2 a3 a4 l1 l2 l3 l4 v w m u e is_at is_false (inr (inr (inr (v3, h3, inr (b4, m4, o4, i4, inr (k4, got.Raise w4, r4, j4, inr (b5, m5, o5, i5, inr (k5, got.Value w5, r5, j5, inr (b6, m6, o6, i6, inr (k6, got.Value w6, r6, j6, inr (b7, m7, o7, i7, inr (k7, got.Raise w7, r7, j7, t7)))))))))))) = cc (i4, j4, i5, j5, i6, j6, i7, j7)
no_line scene k a1 a2 a3 a4 l1 l2 l3 l4 v w m u e is_at is_false (inr (inr (inr (v3, h3, inr (b4, m4, o4, i4, inr (k4, got.Raise w4, r4, j4, inr (b5, m5, o5, i5, inr (k5, got.Value w5, r5, j5, inr (b6, m6, o6, i6, inr (k6, got.Value w6, r6, j6, inr (b7, m7, o7, i7, inr (k7, got.Stop w7, r7, j7, t7)))))))))))) = t7
no_line scene k a1 a2 a3 a4 l1 l2 l3 l4 v w m u e is_at is_false (inr (inr (inr (v3, h3, inr (b4, m4, o4, i4, inr (k4, got.Raise w4, r4, j4, inr (b5, m5, o5, i5, inr (k5, got.Value w5, r5, j5, inr (b6, m6, o6, i6, inr (k6, got.Value w6, r6, j6, inr (b7, m7, o7, i7, inr (k7, got.Value w7, r7, j7, (true, has, t8))))))))))))) = cc (i4, j4, i5, j5, i6, j6, i7, j7, has, is_false)
no_line scene k a1 a2 a3 a4 l1 l2 l3 l4 v w m u e is_at is_false (inr (inr (inr (v3, h3, inr (b4, m4, o4, i4, inr (k4, got.Raise w4, r4, j4, inr (b5, m5, o5, i5, inr (k5, got.Value w5, r5, j5, inr (b6, m6, o6, i6, inr (k6, got.Value w6, r6, j6, inr (b7, m7, o7, i7, inr (k7, got.Value w7, r7, j7, (false, has, inl (n9, c9)))))))))))))) = cc (i4, j4, i5, j5, i6, j6, i7, j7, n9)
no_line scene k a1 a2 a3 a4 l1 l2 l3 l4 v w m u e is_at is_false (inr (inr (inr (v3, h3, inr (b4, m4, o4, i4, inr (k4, got.Raise w4, r4, j4, inr (b5, m5, o5, i5, inr (k5, got.Value w5, r5, j5, inr (b6, m6, o6, i6, inr (k6, got.Value w6, r6, j6, inr (b7, m7, o7, i7, inr (k7, got.Value w7, r7, j7, (false, has, inr (b9, m9, o9, i9, t9)))))))))))))) = cc (i4, j4, i5, j5, i6, j6, i7, j7, i9, o9, is_at)

pub not_by_the_clause : NotByTheClause
not_by_the_clause scene v w m u e is_at is_false trace = no_line scene 2 3 4 4 4 4 6 8 10 v w m u e is_at is_false (begun scene passes_over _ trace)

pub name_is_forgotten : NameIsForgotten
name_is_forgotten globals w m e f = (
  refl,
  (
    _,
    refl,
    inr (inr (inr (
      none_object,
      refl,
      inr (
        3,
        _,
        refl,
        refl,
        inr (
          4,
          got.Raise e,
          _,
          refl,
          inr (
            4,
            _,
            refl,
            refl,
            inr (
              6,
              got.Value w,
              _,
              refl,
              inr (
                4,
                _,
                refl,
                refl,
                inr (
                  8,
                  got.Value m,
                  _,
                  refl,
                  inr (
                    4,
                    _,
                    refl,
                    refl,
                    inr (
                      10,
                      got.Value (record { number = 1 }),
                      _,
                      refl,
                      (
                        true,
                        refl,
                        inr (inr (inr (inr (7, _, refl, refl, inr (11, got.Raise f, _, refl, inr (0, refl)))))),
                      ),
                    ),
                  ),
                ),
              ),
            ),
          ),
        ),
      ),
    ))),
  ),
)
