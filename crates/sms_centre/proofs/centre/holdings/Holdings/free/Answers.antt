use Rattle.std.proofs.Common.{◌<◌, length, refl, sym, ap, ◌∙◌, subst}
use Rattle.std.proofs.lemmas.Option.{slice_get_read}
use Rattle.sms_centre.specs.Inside.Kept.{free_at}
use Rattle.sms_centre.specs.Centre.Value.{LineValue, HoldingsValue}
use Rattle.sms_centre.proofs.Lines.{free_is}
use Rattle.sms_centre.proofs.centre.holdings.Holdings.free.Goals as goal

pub returns : goal.returns
returns c =
    let items = c.self.inside.lines.items in
    let within = subst (λ (v : HoldingsValue). c.args.phone < length v.lines) (sym c.self.view_is) c.requires in
    let there = slice_get_read items (length items) c.args.phone c.index.result.now refl within c.index.ensures in
    ap (λ (l : LineValue). l.free) c.behind-self.view_is
    ∙ (sym (free_is items c.args.phone c.index.result.now there) ∙ ap (λ (v : HoldingsValue). free_at v.lines c.args.phone) c.self.view_is)
