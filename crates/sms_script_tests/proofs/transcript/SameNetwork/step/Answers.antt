use Rattle.std.proofs.Common.{rules, ◌∷◌, [], arith}
use Rattle.std.proofs.lemmas.Grind.{common_steps, replicate_next}
use Rattle.sms_script_tests.proofs.transcript.SameNetwork.step.Goals as goal
use Rattle.sms_script_tests.proofs.transcript.SameNetwork.step.Goals.{in-Tick, in_default, in_default+else-self-lt7}

pub returns-clause-packets : goal.returns-clause-packets
returns-clause-packets c =
    elim c.match-event.branch [
      | in-Tick w ↦ ([], search rules)
      | in_default w ↦ (record { is_up = c.args.self.now.up; phone = 1; octets = c.args.self.now.octets.now } ∷ [], grind (arith, common_steps, replicate_next))
      | in_default+else-self-lt7 w ↦ ([], search rules)
    ]
