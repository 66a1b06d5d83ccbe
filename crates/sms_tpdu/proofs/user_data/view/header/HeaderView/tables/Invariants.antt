use Rattle.sms_tpdu.proofs.TablesWalk.{Walked}
use Rattle.sms_tpdu.proofs.user_data.view.header.HeaderView.tables.Given as goal

abbrev pub invariant-loop-element : goal.invariant-loop-element
invariant-loop-element l = Walked l.self l.element-iterator l.tables
