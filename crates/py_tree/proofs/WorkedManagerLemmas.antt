-- What small trees with managers tell and may not tell.
use Rattle.std.proofs.Common.{◌≡◌, ℕ, List, [], ◌∷◌, Some, None, Bool, true, false, refl, subst, inl, inr}
use Rattle.py_objects.specs.declared.request.Request.TheVariants as request
use Rattle.py_objects.specs.declared.refs.PyBaseExceptionRef.{PyBaseExceptionRef}
use Rattle.py_objects.specs.declared.payload.Payload.TheVariants as payload
use Rattle.py_objects.specs.declared.event.GotAnswer.TheVariants as got
use Rattle.py_objects.specs.declared.event.Ending.TheVariants as ending
use Rattle.py_objects.specs.Objects.{Obj, HasPayload}
use Rattle.py_objects.specs.Callees.{is_manager}
use Rattle.py_objects.specs.Own.{Own, Asks, Gets, Ends}
use Rattle.py_tree.specs.Scene.{Scene}
use Rattle.py_objects.specs.Telling.{AfterValue}
use Rattle.py_tree.specs.declared.expr.Atom.TheVariants as atom
use Rattle.py_tree.specs.Outcome.{After, Raises, By_truth, Requests, On_normal, On_exit, Manages, RunsSuite}
use Rattle.py_tree.specs.Trace.{EndsBy, IsTrace}
use Rattle.py_tree.specs.Tree.{Leaf, Return, Reraise, With, Suite, nothing, first}
use Rattle.py_tree.specs.WorkedHandlers.{none_object}
use Rattle.py_tree.specs.WorkedManagers.{m_name, manager_object, raised, returns_in_with, raises_in_with, raised_events, SwallowedIsTrace, LeftByReturnIsTrace, NoExitSkipped, NoReturnSwallowed, NoExitSkippedByRaise, NoExitUnhandled, NoRaiseSwallowed}
use Rattle.py_tree.proofs.WorkedLemmas.{begun}

pub swallowed_is_trace : SwallowedIsTrace
swallowed_is_trace body x globals v t w u = (
  refl,
  (
    _,
    refl,
    inr (inr (
      2,
      _,
      refl,
      refl,
      inr (
        3,
        got.Value manager_object,
        _,
        refl,
        inr (
          2,
          _,
          refl,
          refl,
          inr (
            4,
            got.Value v,
            _,
            refl,
            inr (
              _,
              refl,
              inr (inr (
                none_object,
                refl,
                inr (
                  3,
                  _,
                  refl,
                  refl,
                  inr (
                    5,
                    got.Raise raised,
                    _,
                    refl,
                    inr (
                      x,
                      t,
                      refl,
                      inr (
                        2,
                        _,
                        refl,
                        refl,
                        inr (
                          6,
                          got.Value w,
                          _,
                          refl,
                          inr (
                            2,
                            _,
                            refl,
                            refl,
                            inr (
                              7,
                              got.Value (record { number = 1 }),
                              _,
                              refl,
                              (
                                true,
                                refl,
                                inr (inr (5, _, refl, refl, inr (8, got.Value u, _, refl, inr (inr (none_object, refl, inr (0, refl)))))),
                              ),
                            ),
                          ),
                        ),
                      ),
                    ),
                  ),
                ),
              )),
            ),
          ),
        ),
      ),
    )),
  ),
)

pub left_by_return_is_trace : LeftByReturnIsTrace
left_by_return_is_trace body x globals v w = (
  refl,
  (
    _,
    refl,
    inr (inr (
      2,
      _,
      refl,
      refl,
      inr (
        3,
        got.Value manager_object,
        _,
        refl,
        inr (
          2,
          _,
          refl,
          refl,
          inr (
            4,
            got.Value v,
            _,
            refl,
            inr (_, refl, inr (inr (none_object, refl, inr (none_object, none_object, none_object, refl, refl, refl, inr (2, _, refl, refl, inr (5, got.Value w, _, refl, inr (0, refl))))))),
          ),
        ),
      ),
    )),
  ),
)

-- behind the body, or where there is no manager
either : (b : Bool) (P Q : Type 0) → By_truth b P Q → (P → ⊥) → (Q → ⊥) → ⊥
either true P Q k f g = f k
either false P Q k f g = g k

-- return None
abbrev returns : Suite
returns = first 3 (Return (Leaf atom.None)) nothing

-- what follows the whole statement, and what is told behind the entry
abbrev Behind : Scene → After
Behind scene = On_normal (EndsBy scene) (λ env i mid. RunsSuite scene nothing env None i mid (EndsBy scene))

abbrev Told : Suite → Scene → Obj → Obj → ℕ → List Own → Type 0
Told body scene m v event ts = Manages scene 2 m None v (RunsSuite scene body) [] None event ts (Behind scene)

-- a with of this body, alone
abbrev managed : Suite → Suite
managed body = first 2 (With (Leaf (atom.Name m_name)) None body) nothing

entered : (body : Suite) (scene : Scene) (k a b : ℕ) (m v : Obj) (behind : List Own)
    → RunsSuite scene (managed body) [] None k
    (Asks a (request.Global scene.globals m_name) None ∷ Gets 3 (got.Value m) ∷ Asks b (request.Enter m) None ∷ Gets 4 (got.Value v) ∷ behind) (EndsBy scene) → Told body scene m v 4 behind
entered body scene k a b m v behind (inl (n1, c1)) = absurd (cc n1)
entered body scene k a b m v behind (inr (inl (n2, c2))) = absurd (cc n2)
entered body scene k a b m v behind (inr (inr (a2, m2, l2, i2, inl (n3, c3)))) = absurd (cc (i2, n3))
entered body scene k a b m v behind (inr (inr (a2, m2, l2, i2, inr (k3, got.Raise e3, r3, j3, t3)))) = absurd (cc (i2, j3))
entered body scene k a b m v behind (inr (inr (a2, m2, l2, i2, inr (k3, got.Stop e3, r3, j3, t3)))) = absurd t3
entered body scene k a b m v behind (inr (inr (a2, m2, l2, i2, inr (k3, got.Value w3, r3, j3, inl (n4, c4))))) = absurd (cc (i2, j3, n4))
entered body scene k a b m v behind (inr (inr (a2, m2, l2, i2, inr (k3, got.Value w3, r3, j3, inr (a4, m4, l4, i4, inl (n5, c5)))))) = absurd (cc (i2, j3, i4, n5))
entered body scene k a b m v behind (inr (inr (a2, m2, l2, i2, inr (k3, got.Value w3, r3, j3, inr (a4, m4, l4, i4, inr (k5, got.Raise e5, r5, j5, t5)))))) = absurd (cc (i2, j3, i4, j5))
entered body scene k a b m v behind (inr (inr (a2, m2, l2, i2, inr (k3, got.Value w3, r3, j3, inr (a4, m4, l4, i4, inr (k5, got.Stop e5, r5, j5, t5)))))) = absurd t5
entered body scene k a b m v behind (inr (inr (a2, m2, l2, i2, inr (k3, got.Value w3, r3, j3, inr (a4, m4, l4, i4, inr (k5, got.Value w5, r5, j5, t5)))))) =
    let entry : w3 ≡ m = cc (i2, j3) in
    let value : w5 ≡ v = cc (i2, j3, i4, j5) in
    let heard : k5 ≡ 4 = cc (i2, j3, i4, j5) in
    let left : r5 ≡ behind = cc (i2, j3, i4, j5) in
    subst (λ (q : Obj). Told body scene q v 4 behind) entry
    (subst (λ (q : Obj). Told body scene w3 q 4 behind) value (subst (λ (q : ℕ). Told body scene w3 w5 q behind) heard (subst (λ (q : List Own). Told body scene w3 w5 k5 q) left t5)))

-- no return behind the entry
no_return : (scene : Scene) (at : ℕ) (m w : Obj) → RunsSuite scene returns [] None 4 (Ends at (ending.Return w) ∷ []) (On_exit scene 2 m None (Behind scene)) → ⊥
no_return scene at m w (inl (n1, c1)) = cc n1
no_return scene at m w (inr (inl (n2, c2))) = cc n2
no_return scene at m w (inr (inr (v2, h2, inl (n3, c3)))) = cc n3
no_return scene at m w (inr (inr (v2, h2, inr (c3, v3, t3, is_c, is_v, is_t, inl (n4, c4))))) = cc n4
no_return scene at m w (inr (inr (v2, h2, inr (c3, v3, t3, is_c, is_v, is_t, inr (a4, m4, l4, i4, t4))))) = cc i4

-- nor does a missing exit end it
no_end : (scene : Scene) (at : ℕ) (m w : Obj) (K : AfterValue) → Requests scene 2 (request.NoExit m) None 4 (Ends at (ending.Return w) ∷ []) K → ⊥
no_end scene at m w K (inl (n1, c1)) = cc n1
no_end scene at m w K (inr (a1, m1, l1, i1, t1)) = cc i1

no_skip : (scene : Scene) (at : ℕ) (m v w : Obj) → Told returns scene m v 4 (Ends at (ending.Return w) ∷ []) → ⊥
no_skip scene at m v w (inl (n1, c1)) = cc n1
no_skip scene at m v w (inr (p, has, told)) = either (is_manager p) _ _ told (no_return scene at m w) (no_end scene at m w _)

pub no_exit_skipped : NoExitSkipped
no_exit_skipped scene k a b at m v w trace = no_skip scene at m v w (entered returns scene k a b m v _ (begun scene returns_in_with _ trace))

-- no test behind the exit
no_test : (scene : Scene) (c at : ℕ) (m r s t w : Obj)
    → RunsSuite scene returns [] None 4 (Asks c (request.Exit m r s t) None ∷ Gets 5 (got.Value w) ∷ Asks at (request.Truth w) None ∷ []) (On_exit scene 2 m None (Behind scene)) → ⊥
no_test scene c at m r s t w (inl (n1, c1)) = cc n1
no_test scene c at m r s t w (inr (inl (n2, c2))) = cc n2
no_test scene c at m r s t w (inr (inr (v2, h2, inl (n3, c3)))) = cc n3
no_test scene c at m r s t w (inr (inr (v2, h2, inr (c3, v3, t3, is_c, is_v, is_t, inl (n4, c4))))) = cc n4
no_test scene c at m r s t w (inr (inr (v2, h2, inr (c3, v3, t3, is_c, is_v, is_t, inr (a4, m4, l4, i4, inl (n5, c5)))))) = cc (i4, n5)
no_test scene c at m r s t w (inr (inr (v2, h2, inr (c3, v3, t3, is_c, is_v, is_t, inr (a4, m4, l4, i4, inr (k5, got.Raise e5, r5, j5, t5)))))) = cc (i4, j5)
no_test scene c at m r s t w (inr (inr (v2, h2, inr (c3, v3, t3, is_c, is_v, is_t, inr (a4, m4, l4, i4, inr (k5, got.Stop e5, r5, j5, t5)))))) = t5
no_test scene c at m r s t w (inr (inr (v2, h2, inr (c3, v3, t3, is_c, is_v, is_t, inr (a4, m4, l4, i4, inr (k5, got.Value w5, r5, j5, inl n6)))))) = cc (i4, j5, n6)
no_test scene c at m r s t w (inr (inr (v2, h2, inr (c3, v3, t3, is_c, is_v, is_t, inr (a4, m4, l4, i4, inr (k5, got.Value w5, r5, j5, inr (a6, i6))))))) = cc (i4, j5, i6)

-- nor is a missing exit asked
no_asking : (scene : Scene) (c : ℕ) (m r s t : Obj) (behind : List Own) (K : AfterValue) → Requests scene 2 (request.NoExit m) None 4 (Asks c (request.Exit m r s t) None ∷ behind) K → ⊥
no_asking scene c m r s t behind K (inl (n1, c1)) = cc n1
no_asking scene c m r s t behind K (inr (a1, m1, l1, i1, t1)) = cc i1

no_swallow : (scene : Scene) (c at : ℕ) (m v r s t w : Obj) → Told returns scene m v 4 (Asks c (request.Exit m r s t) None ∷ Gets 5 (got.Value w) ∷ Asks at (request.Truth w) None ∷ []) → ⊥
no_swallow scene c at m v r s t w (inl (n1, c1)) = cc n1
no_swallow scene c at m v r s t w (inr (p, has, told)) = either (is_manager p) _ _ told (no_test scene c at m r s t w) (no_asking scene c m r s t _ _)

pub no_return_swallowed : NoReturnSwallowed
no_return_swallowed scene k a b c at m v r s t w trace = no_swallow scene c at m v r s t w (entered returns scene k a b m v _ (begun scene returns_in_with _ trace))

-- ---- behind a raise

-- reraise
abbrev reraises : Suite
reraises = first 3 Reraise nothing

-- no exit is missing where a question stands, whatever is asked
no_missing : (scene : Scene) (c : ℕ) (m : Obj) (behind : List Own) (K : AfterValue) → Requests scene 2 (request.NoExit m) None 4 (Asks c request.Handled None ∷ behind) K → ⊥
no_missing scene c m behind K (inl (n1, c1)) = cc n1
no_missing scene c m behind K (inr (a1, m1, l1, i1, t1)) = cc i1

-- what the body tells, and what follows its raise
abbrev Raising : Scene → ℕ → Obj → PyBaseExceptionRef → List Own → Type 0
Raising scene c m e behind = RunsSuite scene reraises [] None 4 (Asks c request.Handled None ∷ Gets 5 (got.Raise e) ∷ behind) (On_exit scene 2 m None (Behind scene))

abbrev Raised : Scene → Obj → PyBaseExceptionRef → List Own → Type 0
Raised scene m e behind = On_exit scene 2 m None (Behind scene) [] (Raises e) 5 behind

raising : (scene : Scene) (c : ℕ) (m : Obj) (e : PyBaseExceptionRef) (behind : List Own) → Raising scene c m e behind → Raised scene m e behind
raising scene c m e behind (inl (n1, c1)) = absurd (cc n1)
raising scene c m e behind (inr (inl (n2, c2))) = absurd (cc n2)
raising scene c m e behind (inr (inr (a2, m2, l2, i2, inl (n3, c3)))) = absurd (cc (i2, n3))
raising scene c m e behind (inr (inr (a2, m2, l2, i2, inr (k3, got.Value w3, r3, j3, t3)))) = absurd (cc (i2, j3))
raising scene c m e behind (inr (inr (a2, m2, l2, i2, inr (k3, got.Stop w3, r3, j3, t3)))) = absurd t3
raising scene c m e behind (inr (inr (a2, m2, l2, i2, inr (k3, got.Raise e3, r3, j3, t3)))) =
    let same : e3 ≡ e = cc (i2, j3) in
    let heard : k3 ≡ 5 = cc (i2, j3) in
    let left : r3 ≡ behind = cc (i2, j3) in
    subst (λ (q : PyBaseExceptionRef). Raised scene m q behind) same
    (subst (λ (q : ℕ). On_exit scene 2 m None (Behind scene) [] (Raises e3) q behind) heard
    (subst (λ (q : List Own). On_exit scene 2 m None (Behind scene) [] (Raises e3) k3 q) left t3))

-- what is told behind the raise
behind_raise : (scene : Scene) (k a b c : ℕ) (m v : Obj) (e : PyBaseExceptionRef) (behind : List Own) → (Raised scene m e behind → ⊥)
    → IsTrace scene raises_in_with [] (raised_events k a b c scene.globals m v e behind) → ⊥
behind_raise scene k a b c m v e behind never trace = by (entered reraises scene k a b m v _ (begun scene raises_in_with _ trace))
  where
    by : Told reraises scene m v 4 (Asks c request.Handled None ∷ Gets 5 (got.Raise e) ∷ behind) → ⊥
    by (inl (n1, c1)) = cc n1
    by (inr (p, has, told)) = either (is_manager p) _ _ told (λ run. never (raising scene c m e behind run)) (no_missing scene c m _ _)

skipped : (scene : Scene) (at : ℕ) (m : Obj) (e : PyBaseExceptionRef) → Raised scene m e (Ends at (ending.Raise e) ∷ []) → ⊥
skipped scene at m e (inl (n1, c1)) = cc n1
skipped scene at m e (inr (body, t, has, inl (n2, c2))) = cc n2
skipped scene at m e (inr (body, t, has, inr (a2, m2, l2, i2, t2))) = cc i2

pub no_exit_skipped_by_raise : NoExitSkippedByRaise
no_exit_skipped_by_raise scene k a b c at m v e = behind_raise scene k a b c m v e _ (skipped scene at m e)

unhandled : (scene : Scene) (at : ℕ) (m r s t : Obj) (e : PyBaseExceptionRef) → Raised scene m e (Asks at (request.Exit m r s t) None ∷ []) → ⊥
unhandled scene at m r s t e (inl (n1, c1)) = cc n1
unhandled scene at m r s t e (inr (body, b, has, inl (n2, c2))) = cc n2
unhandled scene at m r s t e (inr (body, b, has, inr (a2, m2, l2, i2, t2))) = cc i2

pub no_exit_unhandled : NoExitUnhandled
no_exit_unhandled scene k a b c at m v r s t e = behind_raise scene k a b c m v e _ (unhandled scene at m r s t e)

gone : (scene : Scene) (d f at : ℕ) (m r s t w u z : Obj) (e : PyBaseExceptionRef) → HasPayload scene.objects u (payload.Bool false)
    → Raised scene m e (Asks d (request.Exit m r s t) (Some e) ∷ Gets 6 (got.Value w) ∷ Asks f (request.Truth w) None ∷ Gets 7 (got.Value u) ∷ Ends at (ending.Return z) ∷ []) → ⊥
gone scene d f at m r s t w u z e is_false (inl (n1, c1)) = cc n1
gone scene d f at m r s t w u z e is_false (inr (body, b, has, inl (n2, c2))) = cc n2
gone scene d f at m r s t w u z e is_false (inr (body, b, has, inr (a2, m2, l2, i2, inl (n3, c3)))) = cc (i2, n3)
gone scene d f at m r s t w u z e is_false (inr (body, b, has, inr (a2, m2, l2, i2, inr (k3, got.Raise e3, r3, j3, t3)))) = cc (i2, j3)
gone scene d f at m r s t w u z e is_false (inr (body, b, has, inr (a2, m2, l2, i2, inr (k3, got.Stop w3, r3, j3, t3)))) = t3
gone scene d f at m r s t w u z e is_false (inr (body, b, has, inr (a2, m2, l2, i2, inr (k3, got.Value w3, r3, j3, inl (n4, c4))))) = cc (i2, j3, n4)
gone scene d f at m r s t w u z e is_false (inr (body, b, has, inr (a2, m2, l2, i2, inr (k3, got.Value w3, r3, j3, inr (a4, m4, l4, i4, inl (n5, c5)))))) = cc (i2, j3, i4, n5)
gone scene d f at m r s t w u z e is_false (inr (body, b, has, inr (a2, m2, l2, i2, inr (k3, got.Value w3, r3, j3, inr (a4, m4, l4, i4, inr (k5, got.Raise e5, r5, j5, t5)))))) = cc (i2, j3, i4, j5)
gone scene d f at m r s t w u z e is_false (inr (body, b, has, inr (a2, m2, l2, i2, inr (k3, got.Value w3, r3, j3, inr (a4, m4, l4, i4, inr (k5, got.Stop w5, r5, j5, t5)))))) = t5
gone scene d f at m r s t w u z e is_false (inr (body, b, has, inr (a2, m2, l2, i2, inr (k3, got.Value w3, r3, j3, inr (a4, m4, l4, i4, inr (k5, got.Value w5, r5, j5, (true, is, t5))))))) = cc (i2, j3, i4, j5, is, is_false)
gone scene d f at m r s t w u z e is_false (inr (body, b, has, inr (a2, m2, l2, i2, inr (k3, got.Value w3, r3, j3, inr (a4, m4, l4, i4, inr (k5, got.Value w5, r5, j5, (false, is, inl n6))))))) = cc (i2, j3, i4, j5, n6)
gone scene d f at m r s t w u z e is_false (inr (body, b, has, inr (a2, m2, l2, i2, inr (k3, got.Value w3, r3, j3, inr (a4, m4, l4, i4, inr (k5, got.Value w5, r5, j5, (false, is, inr (a6, i6)))))))) = cc (i2, j3, i4, j5, i6)

pub no_raise_swallowed : NoRaiseSwallowed
no_raise_swallowed scene k a b c d f at m v r s t w u z e is_false = behind_raise scene k a b c m v e _ (gone scene d f at m r s t w u z e is_false)
