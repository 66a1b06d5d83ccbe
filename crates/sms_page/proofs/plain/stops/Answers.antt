use Rattle.sms_page.proofs.PlainLemmas.{stops_are}
use Rattle.sms_page.proofs.plain.stops.Goals as goal

pub returns : goal.returns
returns g c = stops_are g.row.OTHER g.row.N c.args.block c.fits-block.0 c.requires
