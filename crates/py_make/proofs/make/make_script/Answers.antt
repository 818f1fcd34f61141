use Rattle.std.proofs.Common.{ap, subst, sym, ◌≡◌, ◌∙◌, ◌++◌, ◌+◌, ◌-◌, ◌≤◌, ◌*◌, ℕ}
use Rattle.std.specs.Prelude.{string_bytes}
use Rattle.py_make.specs.Made.{drawn, drives_of, group, made_text, next_state}
use Rattle.py_make.proofs.GroupLemmas.{drives_few, made_on}
use Rattle.py_make.proofs.make.make_script.Goals as goal

pub loop-group-preserved : goal.loop-group-preserved
loop-group-preserved c =
    let s : ℕ = c.loop-group.state in
    let n : ℕ = c.loop-group.drive in
    let number : c.drawn-number.result ≡ drawn (next_state s) = c.drawn-number.ensures ∙ ap drawn c.next_state-state.ensures.next in
    let drives : c.drives_of-drive.result ≡ drives_of (drawn (next_state s)) = c.drives_of-drive.ensures ∙ ap drives_of number in
    record {
      state = c.next_state-state.ensures.below;
      drive = subst (λ (d : ℕ). n + d ≤ 3 * (c.loop-group._group + 1) + 1) (sym c.drives_of-drive.ensures) (drives_few n c.loop-group._group c.drawn-number.result c.loop-group.invariant.drive);
      text = rw (c.next_state-state.ensures.next, drives)
          (made_on c.args.count c.loop-group._group s n (string_bytes c.loop-group.text) (string_bytes c.push_group.new.text) (made_text c.args.seed c.args.count) c.loop-group-test.true
          (c.in_ok-push_group.ensures ∙ ap (λ (r : ℕ). string_bytes c.loop-group.text ++ group r n) number) c.loop-group.invariant.text);
    }
