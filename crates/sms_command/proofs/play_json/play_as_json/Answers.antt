use Rattle.std.proofs.Common.{◌≡◌, false}
use Rattle.std.specs.Io.KnownBytes.{Appends}
use Rattle.sms_command.specs.Inside.Tellers.{adds_object, ends_objects, watching}
use Rattle.sms_command.specs.declared.shown.Done.TheVariants.{Whole}
use Rattle.sms_command.proofs.Written.{ran_well, was}
use Rattle.sms_command.proofs.play_json.play_as_json.Goals as goal

pub returns-in-Ok : goal.returns-in-Ok
returns-in-Ok g c = λ is octets known. record {
  last = c.run_script-played.result.0;
  runs = ran_well adds_object ends_objects c.watching.result (watching c.args.asked) octets c.run_script-played.result.1 c.in-Ok.field-0 (record { asked = c.args.asked; has_fault = false }) c.run_script-played.result.0 c.new-page.result c.run_script-played.new.page
      (g.W.Write.contents c.args.output.now) (g.W.Write.contents c.run_script-played.new.output) (g.W.Write.contents c.end_whole.new.output)
      c.in-Ok.is c.watching.ensures c.new-page.ensures
      (was c.end_whole.result Whole (c.run_script-played.new.page.is_cut ≡ false) is c.end_whole.ensures.whole)
      (was c.end_whole.result Whole (Appends (g.W.Write.contents c.run_script-played.new.output) (g.W.Write.contents c.end_whole.new.output) c.run_script-played.new.page.octets) is c.end_whole.ensures.written)
      (c.run_script-played.ensures octets known);
  checked = c.end_whole.ensures.faults is;
}
