use Rattle.std.proofs.Common.{length, add-one, arith, subst, ◌≡◌}
use Rattle.py_objects.specs.Edits.{objects_of}
use Rattle.py_objects.specs.declared.edit.LinkField.TheVariants as link
use Rattle.py_exceptions.specs.Nexts.{next_at}
use Rattle.py_exceptions.specs.Orders.{LeadsToEach}
use Rattle.py_exceptions.proofs.LinksLemmas.{link_within}
use Rattle.py_exceptions.proofs.OrdersLemmas.{gone_on, spent_links}
use Rattle.py_exceptions.proofs.traceback_iter.links_to_repeat.Goals as goal

pub loop-links-preserved : goal.loop-links-preserved
loop-links-preserved c =
    rw add-one
    (gone_on (next_at (objects_of c.args.store.now)) c.args.from c.loop-links.links c.loop-links.next _ c.in-Some.object c.in-Some.is c.link-next-in-loop-links.ensures
    (rw c.if-is_met.false at c.is_met.ensures) c.loop-links.invariant)

pub returns : goal.returns
returns c =
    let all : c.loop-links.links ≡ c.len.result = omega arith in
    subst (LeadsToEach (next_at (objects_of c.args.store.now)) c.args.from) all
    (spent_links (next_at (objects_of c.args.store.now)) c.args.from (length c.args.store.now.made) (link_within c.args.store.now link.Next) c.loop-links.links c.loop-links.next
    (omega arith) c.loop-links.invariant)
