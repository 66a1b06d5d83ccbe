use Rattle.std.proofs.Common.{◌≡◌, ◌&&◌, Bool, true, false, refl}
use Rattle.sms_script.proofs.EscapeLemmas.{plain-more, none-escaped, all-plain}
use Rattle.sms_script.proofs.transcript.escapes.are_plain.Goals as goal

both : (a b : Bool) → (a && b) ≡ true → (a ≡ true) × (b ≡ true)
both true b e = (refl, e)
both false b e = absurd cc

pub loop-octet-init : goal.loop-octet-init
loop-octet-init c = λ e. none-escaped c.args.octets.now

pub loop-octet-preserved : goal.loop-octet-preserved
loop-octet-preserved c = λ e.
    let here = both c.loop-octet.all c.is_plain-all.result e in
    plain-more c.args.octets.now c.loop-octet.octet-index c.loop-octet-test.true (c.is_plain-all.ensures.0 here.1) (c.loop-octet.invariant here.0)

pub returns : goal.returns
returns c = λ e. all-plain c.args.octets.now c.loop-octet.octet-index c.loop-octet-test.false (c.loop-octet.invariant e)
