use Rattle.std.proofs.Common.{sym, ◌∙◌}
use Rattle.std.specs.Map.{lookup}
use Rattle.sms_centre.specs.Centre.Value.{key_eq}
use Rattle.sms_centre.specs.Centre.Kept.{is_kept}
use Rattle.sms_centre.proofs.HeldKeys.{gone_from, stays_in}
use Rattle.sms_centre.proofs.centre.held.forget_key.Goals as goal

pub returns-then-not-is_kept-clause-ended : goal.returns-then-not-is_kept-clause-ended
returns-then-not-is_kept-clause-ended c other =
    gone_from (key_eq c.args.key other) (is_kept c.args.last.now.entries c.args.key c.args.now) (lookup (key_eq other) c.args.last.now.entries) (lookup (key_eq other) c.swap_remove.new.self.entries)
    (sym c.is_kept.ensures ∙ c.if-not-is_kept.true) (c.swap_remove.ensures.updates.0 other)

pub returns-else-not-is_kept-clause-ended : goal.returns-else-not-is_kept-clause-ended
returns-else-not-is_kept-clause-ended c other =
    stays_in (key_eq c.args.key other) (is_kept c.args.last.now.entries c.args.key c.args.now) (lookup (key_eq other) c.args.last.now.entries) (sym c.is_kept.ensures ∙ c.if-not-is_kept.false)
