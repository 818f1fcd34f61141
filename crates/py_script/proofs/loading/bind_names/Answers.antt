use Rattle.std.proofs.Common.{◌≡◌, ◌∙◌, ◌+◌, ◌++◌, ◌∷◌, [], List, Some, map, take, refl, ap, sym, subst}
use Rattle.py_objects.specs.declared.payload.Payload.TheVariants as payload
use Rattle.py_objects.specs.Objects.{Obj, HasPayload, declared}
use Rattle.py_grammar.specs.Grammar.{Decl, decl_name}
use Rattle.py_grammar.specs.Script.{decl_of}
use Rattle.py_objects.proofs.GrowthLemmas.{declared_stays}
use Rattle.py_meaning.specs.Entries.{IsNamed}
use Rattle.py_script.specs.Session.{AreBindings}
use Rattle.py_script.proofs.Declarations.{entry_mapped, entry_read, front_more}
use Rattle.py_script.proofs.Objects.{bindings_grow, bindings_more}
use Rattle.py_script.proofs.Driven.{grew_more}
use Rattle.py_script.proofs.loading.bind_names.Goals as goal

pub object_named-value-requires-clause-named : goal.object_named-value-requires-clause-named
object_named-value-requires-clause-named c =
    let i = c.loop-declaration.declaration-index in
    let decl = decl_of c.declaration-item.result in
    let now = c.loop-declaration.vm.objects in
    let (f, is) = c.requires.declared i decl (entry_mapped decl_of c.args.declarations.now i c.declaration-item.result (entry_read c.args.declarations.now i c.declaration-item.result c.loop-declaration-test.true c.declaration-item.is)) in
    subst (IsNamed now) (sym c.name-name.ensures) (f, declared_stays c.args.vm.now.objects now (decl_name decl) c.loop-declaration.invariant.grew.grows ∙ is)

pub loop-declaration-preserved : goal.loop-declaration-preserved
loop-declaration-preserved c =
    let i = c.loop-declaration.declaration-index in
    let ds = c.args.declarations.now in
    let decl = decl_of c.declaration-item.result in
    let old = c.loop-declaration.vm.objects in
    let new = c.add_text.new.vm.objects in
    let front : List Decl = map decl_of (take i ds) in
    let pairs = c.loop-declaration.pairs in
    let grew = c.add_text.ensures.grew in
    let key : HasPayload new c.in_ok-key.key (payload.Str (decl_name decl)) = c.in_ok-key.ensures.is ∙ ap (λ n. Some (payload.Str n)) c.name-name.ensures in
    let value : declared new (decl_name decl) ≡ Some c.object_named-value.result = declared_stays old new (decl_name decl) grew.grows ∙ (ap (declared old) (sym c.name-name.ensures) ∙ c.object_named-value.ensures) in
    let more = bindings_more new front pairs decl (c.in_ok-key.key, c.object_named-value.result) (bindings_grow old new [] [] grew.grows ([], refl) front pairs c.loop-declaration.invariant.bindings) key value in
    record {
      works = c.in_ok-key.ensures.works;
      grew = grew_more _ _ _ c.loop-declaration.invariant.grew grew;
      bindings = subst (λ (ps : List (Obj × Obj)). AreBindings new (map decl_of (take (i + 1) ds)) ps) (sym c.in_ok-push.ensures.added)
          (subst (λ (ds : List Decl). AreBindings new ds (pairs ++ (c.in_ok-key.key, c.object_named-value.result) ∷ [])) (sym (front_more decl_of ds i c.declaration-item.result c.loop-declaration-test.true c.declaration-item.is)) more);
    }
