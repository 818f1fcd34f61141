-- Two activations of one function tell the same, as far as both go, where the objects of two runs are alike.
use Rattle.std.proofs.Common.{◌≡◌, Some, List, refl, sym, ap, subst, ◌∙◌, slice_get}
use Rattle.py_objects.specs.declared.payload.Payload.{Payload}
use Rattle.py_objects.specs.declared.payload.Payload.TheVariants as payload
use Rattle.py_objects.specs.declared.payload.FunctionBody.{FunctionBody}
use Rattle.py_objects.specs.Objects.{Obj, as_object}
use Rattle.py_objects.specs.Own.{Own}
use Rattle.py_objects.specs.Callees.{builtin_of, is_manager}
use Rattle.py_tree.specs.Scene.{anywhere}
use Rattle.py_grammar.specs.declared.raw_block.RawBlock.{RawBlock}
use Rattle.py_grammar.specs.Grammar.{Coded, OfBody, OfRaw}
use Rattle.py_agreement.specs.Agreement.{Relation, SameAll, Agree, IsFaithful}
use Rattle.py_agreement.proofs.Agreeing.{traces_agree}
use Rattle.py_determined.specs.Alike.{Alike, AreAlike}
use Rattle.py_meaning.specs.Whole.{Tells, Traces}
use Rattle.py_meaning.proofs.CoreLemmas.{HaveNoRaw}

module _ (S : Relation) (objects objects' : List Payload) (alike : AreAlike S objects objects') where
  -- ---- what bodies see

  builtins_alike : (p q : Payload) → Alike S objects objects' p q → builtin_of p ≡ builtin_of q
  builtins_alike (payload.Builtin f) (payload.Builtin g) s = ap Some s
  builtins_alike (payload.Builtin f) _ s = absurd s
  builtins_alike _ (payload.Builtin g) s = absurd s
  builtins_alike _ _ s = refl

  managers_alike : (p q : Payload) → Alike S objects objects' p q → is_manager p ≡ is_manager q
  managers_alike (payload.Manager m) (payload.Manager n) s = refl
  managers_alike (payload.Manager m) _ s = absurd s
  managers_alike _ (payload.Manager n) s = absurd s
  managers_alike _ _ s = refl

  -- of alike objects bodies see the same, whatever their globals are
  pub alike_is_faithful : (globals globals' : Obj) → IsFaithful S (anywhere objects globals) (anywhere objects' globals')
  alike_is_faithful globals globals' = record {
    literals = alike.literals;
    truths = λ v w b c s has has'. alike.payloads v w (payload.Bool b) (payload.Bool c) s has has';
    classes = λ e f body body' s has has'. (alike.payloads (as_object e) (as_object f) (payload.Exception body) (payload.Exception body') s has has').class;
    builtins = λ v w p q s has has'. builtins_alike p q (alike.payloads v w p q s has has');
    managers = λ v w p q s has has'. managers_alike p q (alike.payloads v w p q s has has');
  }

  -- ---- what activations tell

  one_code : (coded : List Coded) (b c : FunctionBody) (d e : Coded) → b ≡ c → slice_get coded b.code ≡ Some d → slice_get coded c.code ≡ Some e → d ≡ e
  one_code coded b c d e same at at' =
      let both : Some d ≡ Some e = sym at ∙ ap (λ (f : FunctionBody). slice_get coded f.code) same ∙ at' in
      cc both

  -- activations of one code that was written as a body, with related arguments
  tells_agree : (globals globals' : Obj) (d : Coded) → ((b : RawBlock) → d ≡ OfRaw b → ⊥) → (vs ws : List Obj) (own own' : List Own) → SameAll S vs ws → Tells (anywhere objects globals) d vs own → Tells (anywhere objects' globals') d ws own' → Agree S own own'
  tells_agree globals globals' (OfBody t) written vs ws own own' same_vs told told' =
      traces_agree S (anywhere objects globals) (anywhere objects' globals') (alike_is_faithful globals globals') t vs ws own own' same_vs told told'
  tells_agree globals globals' (OfRaw b) written vs ws own own' same_vs told told' = absurd (written b refl)

  -- activations of related functions, with related arguments
  pub told_agree : (coded : List Coded) → HaveNoRaw coded → (globals globals' f g : Obj) (vs ws : List Obj) (own own' : List Own) → S f g → SameAll S vs ws
      → Traces coded globals objects f vs own → Traces coded globals' objects' g ws own' → Agree S own own'
  told_agree coded written globals globals' f g vs ws own own' same same_vs (b, has, (d, at, told)) (c, has', (e, at', told')) =
      let one : e ≡ d = sym (one_code coded b c d e (alike.payloads f g (payload.Function b) (payload.Function c) same has has') at at') in
      tells_agree globals globals' d (λ r is. written b.code r (at ∙ ap Some is)) vs ws own own' same_vs told (subst (λ (k : Coded). Tells (anywhere objects' globals') k ws own') one told')
