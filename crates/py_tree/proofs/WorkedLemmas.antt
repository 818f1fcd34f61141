-- What small trees may not tell.
use Rattle.std.proofs.Common.{◌≡◌, ℕ, zero, suc, List, [], ◌∷◌, Some, None, true, false, refl, subst, inl, inr}
use Rattle.py_objects.specs.declared.refs.PyBaseExceptionRef.{PyBaseExceptionRef}
use Rattle.py_objects.specs.declared.payload.Payload.TheVariants as payload
use Rattle.py_objects.specs.declared.request.Request.TheVariants as request
use Rattle.py_objects.specs.declared.event.ResumeHow.TheVariants as how
use Rattle.py_objects.specs.declared.event.GotAnswer.TheVariants as got
use Rattle.py_objects.specs.declared.event.Ending.TheVariants as ending
use Rattle.py_objects.specs.Objects.{Obj, HasPayload, as_object}
use Rattle.py_objects.specs.Own.{Own, Makes, Resumes, Asks, Gets, Rounds, Ends}
use Rattle.py_tree.specs.Tree.{Tree}
use Rattle.py_tree.specs.Scene.{Scene}
use Rattle.py_tree.specs.Outcome.{RunsSuite}
use Rattle.py_tree.specs.Trace.{EndsBy, IsBegun, IsTrace}
use Rattle.py_tree.specs.Worked.{e_name, shows_behind, breaks_behind, returns_behind, shows_in_try, NoFinallySkipped, NoFinallyBrokenOutOf, NoExceptionLetOut, NoExceptionStays, HandledIsTrace, ShownIsTrace, LeftIsTrace, ReturnedIsTrace}

-- what is told behind the making of an activation
pub begun : (scene : Scene) (t : Tree) (ts : List Own) → IsTrace scene t [] (Makes ∷ ts) → IsBegun scene t [] ts
begun scene t ts (same, (us, is, told)) = let behind : us ≡ ts = cc is in subst (λ (l : List Own). IsBegun scene t [] l) behind told

no_skip : (scene : Scene) (k at : ℕ) (v : Obj) → RunsSuite scene shows_behind.suite [] None k (Ends at (ending.Return v) ∷ []) (EndsBy scene) → ⊥
no_skip scene k at v (inl (n1, c1)) = cc n1
no_skip scene k at v (inr (inl (n2, c2))) = cc n2
no_skip scene k at v (inr (inr (inl (n3, c3)))) = cc n3
no_skip scene k at v (inr (inr (inr (v3, h3, inl (n4, c4))))) = cc n4
no_skip scene k at v (inr (inr (inr (v3, h3, inr (inl (n5, c5)))))) = cc n5
no_skip scene k at v (inr (inr (inr (v3, h3, inr (inr (v5, h5, inl (none, cut))))))) = cc none
no_skip scene k at v (inr (inr (inr (v3, h3, inr (inr (v5, h5, inr (a, mid, of_line, is, told))))))) = cc is

pub no_finally_skipped : NoFinallySkipped
no_finally_skipped scene k at v trace = no_skip scene k at v (begun scene shows_behind (Resumes k how.Start ∷ Ends at (ending.Return v) ∷ []) trace)

no_breaking : (scene : Scene) (k l r a at : ℕ) (v w u : Obj) → HasPayload scene.objects w (payload.Bool true)
    → RunsSuite scene breaks_behind.suite [] None k (Rounds r ∷ Asks a (request.Truth v) None ∷ Gets l (got.Value w) ∷ Ends at (ending.Return u) ∷ []) (EndsBy scene) → ⊥
no_breaking scene k l r a at v w u is_true (inl (n1, c1)) = cc n1
no_breaking scene k l r a at v w u is_true (inr (zero, inl (n2, c2))) = cc n2
no_breaking scene k l r a at v w u is_true (inr (zero, inr (r2, m2, i2, inl (n3, c3)))) = cc (i2, n3)
no_breaking scene k l r a at v w u is_true (inr (zero, inr (r2, m2, i2, inr (v3, h3, inl (n4, c4))))) = cc (i2, n4)
no_breaking scene k l r a at v w u is_true (inr (zero, inr (r2, m2, i2, inr (v3, h3, inr (a4, m4, l4, i4, inl (n5, c5)))))) = cc (i2, i4, n5)
no_breaking scene k l r a at v w u is_true (inr (zero, inr (r2, m2, i2, inr (v3, h3, inr (a4, m4, l4, i4, inr (k5, got.Raise w5, m5, i5, t5)))))) = cc (i2, i4, i5)
no_breaking scene k l r a at v w u is_true (inr (zero, inr (r2, m2, i2, inr (v3, h3, inr (a4, m4, l4, i4, inr (k5, got.Stop w5, m5, i5, t5)))))) = t5
no_breaking scene k l r a at v w u is_true (inr (zero, inr (r2, m2, i2, inr (v3, h3, inr (a4, m4, l4, i4, inr (k5, got.Value w5, m5, i5, (false, has, t6))))))) = cc (i2, i4, i5, has, is_true)
no_breaking scene k l r a at v w u is_true (inr (zero, inr (r2, m2, i2, inr (v3, h3, inr (a4, m4, l4, i4, inr (k5, got.Value w5, m5, i5, (true, has, t6))))))) = t6
no_breaking scene k l r a at v w u is_true (inr (suc n, inl (n2, c2))) = cc n2
no_breaking scene k l r a at v w u is_true (inr (suc n, inr (r2, m2, i2, inl (n3, c3)))) = cc (i2, n3)
no_breaking scene k l r a at v w u is_true (inr (suc n, inr (r2, m2, i2, inr (v3, h3, inl (n4, c4))))) = cc (i2, n4)
no_breaking scene k l r a at v w u is_true (inr (suc n, inr (r2, m2, i2, inr (v3, h3, inr (a4, m4, l4, i4, inl (n5, c5)))))) = cc (i2, i4, n5)
no_breaking scene k l r a at v w u is_true (inr (suc n, inr (r2, m2, i2, inr (v3, h3, inr (a4, m4, l4, i4, inr (k5, got.Raise w5, m5, i5, t5)))))) = cc (i2, i4, i5)
no_breaking scene k l r a at v w u is_true (inr (suc n, inr (r2, m2, i2, inr (v3, h3, inr (a4, m4, l4, i4, inr (k5, got.Stop w5, m5, i5, t5)))))) = t5
no_breaking scene k l r a at v w u is_true (inr (suc n, inr (r2, m2, i2, inr (v3, h3, inr (a4, m4, l4, i4, inr (k5, got.Value w5, m5, i5, (false, has, t6))))))) = cc (i2, i4, i5, has, is_true)
no_breaking scene k l r a at v w u is_true (inr (suc n, inr (r2, m2, i2, inr (v3, h3, inr (a4, m4, l4, i4, inr (k5, got.Value w5, m5, i5, (true, has, inl (n6, c6)))))))) = cc (i2, i4, i5, n6)
no_breaking scene k l r a at v w u is_true (inr (suc n, inr (r2, m2, i2, inr (v3, h3, inr (a4, m4, l4, i4, inr (k5, got.Value w5, m5, i5, (true, has, inr (inl (n7, c7))))))))) = cc (i2, i4, i5, n7)
no_breaking scene k l r a at v w u is_true (inr (suc n, inr (r2, m2, i2, inr (v3, h3, inr (a4, m4, l4, i4, inr (k5, got.Value w5, m5, i5, (true, has, inr (inr (inl (n8, c8)))))))))) = cc (i2, i4, i5, n8)
no_breaking scene k l r a at v w u is_true (inr (suc n, inr (r2, m2, i2, inr (v3, h3, inr (a4, m4, l4, i4, inr (k5, got.Value w5, m5, i5, (true, has, inr (inr (inr (inl (n9, c9))))))))))) = cc (i2, i4, i5, n9)
no_breaking scene k l r a at v w u is_true (inr (suc n, inr (r2, m2, i2, inr (v3, h3, inr (a4, m4, l4, i4, inr (k5, got.Value w5, m5, i5, (true, has, inr (inr (inr (inr (v9, h9, inl (n10, c10)))))))))))) = cc (i2, i4, i5, n10)
no_breaking scene k l r a at v w u is_true (inr (suc n, inr (r2, m2, i2, inr (v3, h3, inr (a4, m4, l4, i4, inr (k5, got.Value w5, m5, i5, (true, has, inr (inr (inr (inr (v9, h9, inr (a10, m10, l10, i10, t10)))))))))))) = cc (i2, i4, i5, i10)

pub no_finally_broken_out_of : NoFinallyBrokenOutOf
no_finally_broken_out_of scene k l r a at v w u is_true trace =
    no_breaking scene k l r a at v w u is_true
    (begun scene breaks_behind (Resumes k how.Start ∷ Rounds r ∷ Asks a (request.Truth v) None ∷ Gets l (got.Value w) ∷ Ends at (ending.Return u) ∷ []) trace)

no_letting : (scene : Scene) (k l m a b c : ℕ) (v w : Obj) (e : PyBaseExceptionRef)
    → RunsSuite scene returns_behind.suite [] None k (Asks a (request.Global scene.globals e_name) None ∷ Gets l (got.Value v) ∷ Asks b (request.Raisable v) None ∷ Gets m (got.Value w) ∷ Ends c (ending.Raise e) ∷ []) (EndsBy scene) → ⊥
no_letting scene k l m a b c v w e (inl (n1, c1)) = cc n1
no_letting scene k l m a b c v w e (inr (inl (n2, c2))) = cc n2
no_letting scene k l m a b c v w e (inr (inr (inl (n3, c3)))) = cc n3
no_letting scene k l m a b c v w e (inr (inr (inr (a3, m3, l3, i3, inl (x3, c3))))) = cc x3
no_letting scene k l m a b c v w e (inr (inr (inr (a3, m3, l3, i3, inr (k3, got.Raise w3, r3, j3, t3))))) = cc (i3, j3)
no_letting scene k l m a b c v w e (inr (inr (inr (a3, m3, l3, i3, inr (k3, got.Stop w3, r3, j3, t3))))) = t3
no_letting scene k l m a b c v w e (inr (inr (inr (a3, m3, l3, i3, inr (k3, got.Value w3, r3, j3, inl (n4, c4)))))) = cc n4
no_letting scene k l m a b c v w e (inr (inr (inr (a3, m3, l3, i3, inr (k3, got.Value w3, r3, j3, inr (a4, m4, l4, i4, inl (x4, c4))))))) = cc x4
no_letting scene k l m a b c v w e (inr (inr (inr (a3, m3, l3, i3, inr (k3, got.Value w3, r3, j3, inr (a4, m4, l4, i4, inr (k4, got.Raise w4, r4, j4, t4))))))) = cc (i4, j4)
no_letting scene k l m a b c v w e (inr (inr (inr (a3, m3, l3, i3, inr (k3, got.Value w3, r3, j3, inr (a4, m4, l4, i4, inr (k4, got.Stop w4, r4, j4, t4))))))) = t4
no_letting scene k l m a b c v w e (inr (inr (inr (a3, m3, l3, i3, inr (k3, got.Value w3, r3, j3, inr (a4, m4, l4, i4, inr (k4, got.Value w4, r4, j4, inl (n5, c5)))))))) = cc n5
no_letting scene k l m a b c v w e (inr (inr (inr (a3, m3, l3, i3, inr (k3, got.Value w3, r3, j3, inr (a4, m4, l4, i4, inr (k4, got.Value w4, r4, j4, inr (inl (n6, c6))))))))) = cc n6
no_letting scene k l m a b c v w e (inr (inr (inr (a3, m3, l3, i3, inr (k3, got.Value w3, r3, j3, inr (a4, m4, l4, i4, inr (k4, got.Value w4, r4, j4, inr (inr (v6, h6, inl none))))))))) = cc none
no_letting scene k l m a b c v w e (inr (inr (inr (a3, m3, l3, i3, inr (k3, got.Value w3, r3, j3, inr (a4, m4, l4, i4, inr (k4, got.Value w4, r4, j4, inr (inr (v6, h6, inr (at, is)))))))))) = cc is

pub no_exception_let_out : NoExceptionLetOut
no_exception_let_out scene k l m a b c v w e trace =
    no_letting scene k l m a b c v w e
    (begun scene returns_behind (Resumes k how.Start ∷ Asks a (request.Global scene.globals e_name) None ∷ Gets l (got.Value v) ∷ Asks b (request.Raisable v) None ∷ Gets m (got.Value w) ∷ Ends c (ending.Raise e) ∷ []) trace)

-- the events of handled_events behind its entry
no_staying : (scene : Scene) (v w m u : Obj) (e f : PyBaseExceptionRef)
    → RunsSuite scene shows_in_try.suite [] None 2
    (Asks 1 (request.Show v) None ∷ Gets 4 (got.Raise e) ∷ Asks 5 (request.Global scene.globals e_name) (Some e) ∷ Gets 6 (got.Value w) ∷ Asks 6 (request.Match (as_object e) w) (Some e) ∷ Gets 8 (got.Value m)
    ∷ Asks 7 (request.Truth m) (Some e) ∷ Gets 10 (got.Value u) ∷ Asks 11 (request.Show v) (Some f) ∷ []) (EndsBy scene) → ⊥
no_staying scene v w m u e f (inl (n1, c1)) = cc n1
no_staying scene v w m u e f (inr (inl (n2, c2))) = cc n2
no_staying scene v w m u e f (inr (inr (inl (n3, c3)))) = cc n3
no_staying scene v w m u e f (inr (inr (inr (v3, h3, inl (n4, c4))))) = cc n4
no_staying scene v w m u e f (inr (inr (inr (v3, h3, inr (a4, m4, l4, i4, inl (x4, c4)))))) = cc x4
no_staying scene v w m u e f (inr (inr (inr (v3, h3, inr (a4, m4, l4, i4, inr (k4, got.Value w4, r4, j4, t4)))))) = cc (i4, j4)
no_staying scene v w m u e f (inr (inr (inr (v3, h3, inr (a4, m4, l4, i4, inr (k4, got.Stop w4, r4, j4, t4)))))) = t4
no_staying scene v w m u e f (inr (inr (inr (v3, h3, inr (a4, m4, l4, i4, inr (k4, got.Raise w4, r4, j4, inl (n5, c5))))))) = cc n5
no_staying scene v w m u e f (inr (inr (inr (v3, h3, inr (a4, m4, l4, i4, inr (k4, got.Raise w4, r4, j4, inr (a5, m5, l5, i5, inl (x5, c5)))))))) = cc x5
no_staying scene v w m u e f (inr (inr (inr (v3, h3, inr (a4, m4, l4, i4, inr (k4, got.Raise w4, r4, j4, inr (a5, m5, l5, i5, inr (k5, got.Raise w5, r5, j5, t5)))))))) = cc (i5, j5)
no_staying scene v w m u e f (inr (inr (inr (v3, h3, inr (a4, m4, l4, i4, inr (k4, got.Raise w4, r4, j4, inr (a5, m5, l5, i5, inr (k5, got.Stop w5, r5, j5, t5)))))))) = t5
no_staying scene v w m u e f (inr (inr (inr (v3, h3, inr (a4, m4, l4, i4, inr (k4, got.Raise w4, r4, j4, inr (a5, m5, l5, i5, inr (k5, got.Value w5, r5, j5, inl (n6, c6))))))))) = cc n6
no_staying scene v w m u e f (inr (inr (inr (v3, h3, inr (a4, m4, l4, i4, inr (k4, got.Raise w4, r4, j4, inr (a5, m5, l5, i5, inr (k5, got.Value w5, r5, j5, inr (a6, m6, l6, i6, inl (x6, c6)))))))))) = cc x6
no_staying scene v w m u e f (inr (inr (inr (v3, h3, inr (a4, m4, l4, i4, inr (k4, got.Raise w4, r4, j4, inr (a5, m5, l5, i5, inr (k5, got.Value w5, r5, j5, inr (a6, m6, l6, i6, inr (k6, got.Raise w6, r6, j6, t6)))))))))) = cc (i6, j6)
no_staying scene v w m u e f (inr (inr (inr (v3, h3, inr (a4, m4, l4, i4, inr (k4, got.Raise w4, r4, j4, inr (a5, m5, l5, i5, inr (k5, got.Value w5, r5, j5, inr (a6, m6, l6, i6, inr (k6, got.Stop w6, r6, j6, t6)))))))))) = t6
no_staying scene v w m u e f (inr (inr (inr (v3, h3, inr (a4, m4, l4, i4, inr (k4, got.Raise w4, r4, j4, inr (a5, m5, l5, i5, inr (k5, got.Value w5, r5, j5, inr (a6, m6, l6, i6, inr (k6, got.Value w6, r6, j6, inl (n7, c7))))))))))) = cc n7
no_staying scene v w m u e f (inr (inr (inr (v3, h3, inr (a4, m4, l4, i4, inr (k4, got.Raise w4, r4, j4, inr (a5, m5, l5, i5, inr (k5, got.Value w5, r5, j5, inr (a6, m6, l6, i6, inr (k6, got.Value w6, r6, j6, inr (a7, m7, l7, i7, inl (x7, c7)))))))))))) = cc x7
no_staying scene v w m u e f (inr (inr (inr (v3, h3, inr (a4, m4, l4, i4, inr (k4, got.Raise w4, r4, j4, inr (a5, m5, l5, i5, inr (k5, got.Value w5, r5, j5, inr (a6, m6, l6, i6, inr (k6, got.Value w6, r6, j6, inr (a7, m7, l7, i7, inr (k7, got.Raise w7, r7, j7, t7)))))))))))) = cc (i7, j7)
no_staying scene v w m u e f (inr (inr (inr (v3, h3, inr (a4, m4, l4, i4, inr (k4, got.Raise w4, r4, j4, inr (a5, m5, l5, i5, inr (k5, got.Value w5, r5, j5, inr (a6, m6, l6, i6, inr (k6, got.Value w6, r6, j6, inr (a7, m7, l7, i7, inr (k7, got.Stop w7, r7, j7, t7)))))))))))) = t7
no_staying scene v w m u e f (inr (inr (inr (v3, h3, inr (a4, m4, l4, i4, inr (k4, got.Raise w4, r4, j4, inr (a5, m5, l5, i5, inr (k5, got.Value w5, r5, j5, inr (a6, m6, l6, i6, inr (k6, got.Value w6, r6, j6, inr (a7, m7, l7, i7, inr (k7, got.Value w7, r7, j7, (true, has, inl (none, cut)))))))))))))) = cc none
no_staying scene v w m u e f (inr (inr (inr (v3, h3, inr (a4, m4, l4, i4, inr (k4, got.Raise w4, r4, j4, inr (a5, m5, l5, i5, inr (k5, got.Value w5, r5, j5, inr (a6, m6, l6, i6, inr (k6, got.Value w6, r6, j6, inr (a7, m7, l7, i7, inr (k7, got.Value w7, r7, j7, (true, has, inr (inl (none, cut))))))))))))))) = cc none
no_staying scene v w m u e f (inr (inr (inr (v3, h3, inr (a4, m4, l4, i4, inr (k4, got.Raise w4, r4, j4, inr (a5, m5, l5, i5, inr (k5, got.Value w5, r5, j5, inr (a6, m6, l6, i6, inr (k6, got.Value w6, r6, j6, inr (a7, m7, l7, i7, inr (k7, got.Value w7, r7, j7, (true, has, inr (inr (inl (none, cut)))))))))))))))) = cc none
no_staying scene v w m u e f (inr (inr (inr (v3, h3, inr (a4, m4, l4, i4, inr (k4, got.Raise w4, r4, j4, inr (a5, m5, l5, i5, inr (k5, got.Value w5, r5, j5, inr (a6, m6, l6, i6, inr (k6, got.Value w6, r6, j6, inr (a7, m7, l7, i7, inr (k7, got.Value w7, r7, j7, (true, has, inr (inr (inr (inl (none, cut))))))))))))))))) = cc none
no_staying scene v w m u e f (inr (inr (inr (v3, h3, inr (a4, m4, l4, i4, inr (k4, got.Raise w4, r4, j4, inr (a5, m5, l5, i5, inr (k5, got.Value w5, r5, j5, inr (a6, m6, l6, i6, inr (k6, got.Value w6, r6, j6, inr (a7, m7, l7, i7, inr (k7, got.Value w7, r7, j7, (true, has, inr (inr (inr (inr (o, is_none, inl (none, cut)))))))))))))))))) = cc none
no_staying scene v w m u e f (inr (inr (inr (v3, h3, inr (a4, m4, l4, i4, inr (k4, got.Raise w4, r4, j4, inr (a5, m5, l5, i5, inr (k5, got.Value w5, r5, j5, inr (a6, m6, l6, i6, inr (k6, got.Value w6, r6, j6, inr (a7, m7, l7, i7, inr (k7, got.Value w7, r7, j7, (true, has, inr (inr (inr (inr (o, is_none, inr (y, mid, of_line, is, told)))))))))))))))))) = cc is
no_staying scene v w m u e f (inr (inr (inr (v3, h3, inr (a4, m4, l4, i4, inr (k4, got.Raise w4, r4, j4, inr (a5, m5, l5, i5, inr (k5, got.Value w5, r5, j5, inr (a6, m6, l6, i6, inr (k6, got.Value w6, r6, j6, inr (a7, m7, l7, i7, inr (k7, got.Value w7, r7, j7, (false, has, inl (none, cut)))))))))))))) = cc none
no_staying scene v w m u e f (inr (inr (inr (v3, h3, inr (a4, m4, l4, i4, inr (k4, got.Raise w4, r4, j4, inr (a5, m5, l5, i5, inr (k5, got.Value w5, r5, j5, inr (a6, m6, l6, i6, inr (k6, got.Value w6, r6, j6, inr (a7, m7, l7, i7, inr (k7, got.Value w7, r7, j7, (false, has, inr (y, mid, of_line, is, told)))))))))))))) = cc is

pub no_exception_stays : NoExceptionStays
no_exception_stays scene v w m u e f trace = no_staying scene v w m u e f (begun scene shows_in_try _ trace)

pub handled_is_trace : HandledIsTrace
handled_is_trace globals w m e = (refl, (_, refl, (inr (inr (inr (record { number = 0 }, refl, inr (1, _, refl, refl, inr (4, got.Raise e, _, refl, inr (5, _, refl, refl, inr (6, got.Value w, _, refl, inr (6, _, refl, refl, inr (8, got.Value m, _, refl, inr (7, _, refl, refl, inr (10, got.Value (record { number = 1 }), _, refl, (true, refl, inr (inr (inr (inr (record { number = 0 }, refl, inr (11, _, refl, refl, inl (refl, refl)))))))))))))))))))))

pub shown_is_trace : ShownIsTrace
shown_is_trace globals u = (refl, (_, refl, (inr (inr (inr (record { number = 0 }, refl, inr (inr (record { number = 0 }, refl, inr (1, _, refl, refl, inr (4, got.Value u, _, refl, inr (inr (5, refl))))))))))))

pub left_is_trace : LeftIsTrace
left_is_trace globals u = (
  refl,
  (
    _,
    refl,
    inr (
      1,
      inr (
        3,
        _,
        refl,
        inr (
          record { number = 1 },
          refl,
          inr (
            4,
            _,
            refl,
            refl,
            inr (
              5,
              got.Value (record { number = 1 }),
              _,
              refl,
              (
                true,
                refl,
                inr (inr (inr (inr (record { number = 0 }, refl, inr (6, _, refl, refl, inr (7, got.Value u, _, refl, inr (inr (inr (record { number = 0 }, refl, inr (8, refl)))))))))),
              ),
            ),
          ),
        ),
      ),
    ),
  ),
)

pub returned_is_trace : ReturnedIsTrace
returned_is_trace globals v w =
    (refl, (_, refl, (inr (inr (inr (1, _, refl, refl, inr (4, got.Value v, _, refl, inr (2, _, refl, refl, inr (6, got.Value w, _, refl, inr (inr (record { number = 0 }, refl, inr (9, refl))))))))))))
