use Rattle.std.proofs.Common.{◌≡◌, ◌≤◌, ◌-◌, List, length, Ok, Err, refl, sym, ap, ◌∙◌, subst, arith}
use Rattle.sms_message.specs.declared.outcome.Dropped.TheVariants.{Memory}
use Rattle.sms_world.specs.declared.fault.WorldFault.TheVariants.{Party}
use Rattle.sms_world.specs.Inside.Followed.{Follows}
use Rattle.sms_world.specs.Inside.NotesValue.{ledger_in}
use Rattle.sms_world.specs.World.Steps.{event_of, Steps}
use Rattle.sms_world.proofs.Alike.{same, joined}
use Rattle.sms_world.proofs.Followed.{wants, wants_so, fails, goes, few_new, may_hold, still_holds, facts_are, goes_so}
use Rattle.sms_script.specs.declared.script.limits.Limits.{Limits}
use Rattle.sms_world.proofs.Happening.{fault_is}
use Rattle.sms_world.proofs.watched.happen_at_phone.Goals as goal

pub returns-in_err-make_room-clause-steps : goal.returns-in_err-make_room-clause-steps
returns-in_err-make_room-clause-steps c =
    let event = event_of c.args.event.now in
    let is = fault_is c.from_residual.result (Party Memory) c.from_residual.ensures.1 in
    subst (λ t. Steps event c.args.world.now t c.args.world.now) (sym is)
    (wants_so c.laws_below.ensures c.watching_goes_on.ensures c.args.world.now (ledger_in c.args.notes.now) event c.requires.in_order c.args.way c.typed_texts_are_text.ensures c.requires.way)

pub returns-in_err-make_room-clause-follows : goal.returns-in_err-make_room-clause-follows
returns-in_err-make_room-clause-follows c =
    let event = event_of c.args.event.now in
    let is = fault_is c.from_residual.result (Party Memory) c.from_residual.ensures.1 in
    subst (λ t. Follows event c.args.world.now (ledger_in c.args.notes.now) t c.args.world.now (ledger_in c.make_room.new.self)) (sym is)
    (wants c.laws_below.ensures c.watching_goes_on.ensures c.args.world.now (ledger_in c.args.notes.now) event c.requires.in_order c.args.way (ledger_in c.make_room.new.self)
    c.typed_texts_are_text.ensures c.requires.way c.in_err-make_room.ensures.alike)

pub returns-in_err-told-clause-steps : goal.returns-in_err-told-clause-steps
returns-in_err-told-clause-steps c =
    let event = event_of c.args.event.now in
    let is = fault_is c.from_residual-in_err-told.result c.in_err-told.field-0.0 c.from_residual-in_err-told.ensures.1 in
    subst (λ t. Steps event c.args.world.now t c.step.new.self) (sym is) c.in_err-told.ensures.steps

pub returns-in_err-told-clause-follows : goal.returns-in_err-told-clause-follows
returns-in_err-told-clause-follows c =
    let event = event_of c.args.event.now in
    let is = fault_is c.from_residual-in_err-told.result c.in_err-told.field-0.0 c.from_residual-in_err-told.ensures.1 in
    subst (λ t. Follows event c.args.world.now (ledger_in c.args.notes.now) t c.step.new.self (ledger_in c.make_room.new.self)) (sym is)
    (fails c.laws_below.ensures c.watching_goes_on.ensures c.args.world.now (ledger_in c.args.notes.now) event c.requires.in_order c.in_err-told.field-0.0 c.step.new.self (ledger_in c.make_room.new.self)
    c.in_err-told.ensures.steps c.in_err-told.ensures.kept c.in_ok-make_room.ensures.alike)

pub note-requires-clause-few : goal.note-requires-clause-few
note-requires-clause-few c =
    let few = few_new c.laws_below.ensures c.watching_goes_on.ensures c.args.world.now c.step.new.self (ledger_in c.args.notes.now) (event_of c.args.event.now) (Ok c.in_ok-told.told) c.requires.followed c.in_ok-told.ensures.steps in
    let put = c.facts_after-facts.ensures.put in
    let before = c.packet_count-before.ensures in
    omega (arith, few, put, before)

pub note-requires-clause-holds : goal.note-requires-clause-holds
note-requires-clause-holds c =
    still_holds c.args.notes.now c.make_room.new.self c.in_ok-make_room.ensures.alike c.in_ok-make_room.ensures.receivers
    (may_hold c.laws_below.ensures c.watching_goes_on.ensures c.args.world.now c.args.notes.now c.requires.followed c.requires.rows)

pub returns-clause-follows : goal.returns-clause-follows
returns-clause-follows c =
    let old = c.args.world.now in
    let new = c.step.new.self in
    let o = c.in_ok-told.told in
    let event = event_of c.args.event.now in
    let facts = c.facts_after-facts in
    let put : facts.result.put ≡ length new.packets - length old.packets = facts.ensures.put ∙ ap (λ n. length new.packets - n) c.packet_count-before.ensures in
    let same_facts = facts_are c.laws_below.ensures c.watching_goes_on.ensures old new c.args.way event o facts.result put facts.ensures.text facts.ensures.stamp facts.ensures.way.0 facts.ensures.way.1 in
    goes_so c.laws_below.ensures c.watching_goes_on.ensures c.facts_are_told.ensures old new (ledger_in c.args.notes.now) (ledger_in c.make_room.new.self) (ledger_in c.note.new.self) event o c.args.way
    c.requires.in_order c.in_ok-make_room.ensures.alike c.in_ok-told.ensures.steps c.in_ok-told.ensures.phones c.requires.way
    c.limits-limits.result.reject c.clock-now.result facts.result (ap (λ (k : Limits). k.reject) c.limits-limits.ensures) c.clock-now.ensures.clock same_facts facts.ensures.way.1 c.note.ensures.noted
