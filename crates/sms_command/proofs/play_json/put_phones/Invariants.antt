use Rattle.sms_command.specs.Inside.Tellers.{AddsObjects}
use Rattle.sms_command.proofs.play_json.put_phones.Given as goal

abbrev pub invariant-loop-phone : goal.invariant-loop-phone
invariant-loop-phone l = AddsObjects l.phone l.fn.page l.page
