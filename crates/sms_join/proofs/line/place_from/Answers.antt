use Rattle.std.proofs.Common.{ltb, rules, subst, arith, ◌≤◌}
use Rattle.std.proofs.lemmas.List.Sorted.{IsPartitionPoint-from_clause, IsPartitionedBy-ltb}
use Rattle.sms_join.specs.declared.line.Opening.{Opening}
use Rattle.sms_join.proofs.InLine.{climbs_order, splits_there}
use Rattle.sms_join.proofs.line.place_from.Goals as goal

pub returns : goal.returns
returns c =
    let parted = IsPartitionedBy-ltb (λ (o : Opening). o.turn) c.args.line.now.items c.args.turn (climbs_order c.args.line.now.items c.requires) in
    let point = IsPartitionPoint-from_clause (λ (o : Opening). ltb o.turn c.args.turn) _ _ c.partition_point.ensures.partitioned parted (λ a r q k. search rules) in
    splits_there c.args.turn c.partition_point.result c.args.line.now.items (subst (λ n. c.partition_point.result ≤ n) c.args.line.now.ok.0 c.partition_point.ensures.bound)
    (λ k d l. point.0 k d (omega arith) l) (λ k d a b. point.1 k d a b)
