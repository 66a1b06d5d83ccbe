use Rattle.std.proofs.Common.{arith}
use Rattle.sms_card.proofs.Whole.{IsWhole, whole}
use Rattle.sms_card.proofs.stored.view.see.Goals as goal

pub returns-clause-found : goal.returns-clause-found
returns-clause-found c = (whole c.args.input.now c.requires (λ i. omega (arith, c.type_inv.input i)) c.new-cursor.result c.record_at.new.input c.new-cursor.ensures.place c.new-cursor.ensures.rest c.record_at.result c.record_at.ensures).found

pub returns-clause-refused : goal.returns-clause-refused
returns-clause-refused c = (whole c.args.input.now c.requires (λ i. omega (arith, c.type_inv.input i)) c.new-cursor.result c.record_at.new.input c.new-cursor.ensures.place c.new-cursor.ensures.rest c.record_at.result c.record_at.ensures).refused

pub returns-clause-exact : goal.returns-clause-exact
returns-clause-exact c = (whole c.args.input.now c.requires (λ i. omega (arith, c.type_inv.input i)) c.new-cursor.result c.record_at.new.input c.new-cursor.ensures.place c.new-cursor.ensures.rest c.record_at.result c.record_at.ensures).exact
