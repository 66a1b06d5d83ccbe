use Rattle.std.proofs.Common.{◌<◌, ℕ, sym, subst}
use Rattle.sms_join.proofs.InLine.{written}
use Rattle.sms_join.proofs.line.note.Goals as goal

pub index_mut-requires : goal.index_mut-requires
index_mut-requires c = subst (λ (n : ℕ). c.args.place < n) (sym c.args.line.now.ok.0) c.requires.there

pub returns : goal.returns
returns c = λ opening there. written c.args.index c.args.place c.args.line.now.items opening c.index_mut.result.now c.requires.climbs there c.index_mut.ensures.value
