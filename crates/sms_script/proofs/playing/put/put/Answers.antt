use Rattle.std.proofs.Common.{take, drop, sym}
use Rattle.std.proofs.lemmas.List.{take-append-drop}
use Rattle.sms_script.proofs.playing.put.put.Goals as goal

pub returns-in-Err-clause-puts : goal.returns-in-Err-clause-puts
returns-in-Err-clause-puts g c =
    let p = c.write_whole.ensures.front in
    (take p.0 c.args.text.now, (drop p.0 c.args.text.now, sym (take-append-drop p.0 c.args.text.now)), p.2)
