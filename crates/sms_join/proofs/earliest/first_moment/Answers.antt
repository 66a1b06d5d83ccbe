use Rattle.std.proofs.Common.{◌≡◌, ◌<◌, ◌∙◌, ℕ, List, refl, sym, subst, arith}
use Rattle.sms_join.specs.OpenSets.{SetValue}
use Rattle.sms_join.specs.Inside.Lines.{AreSince}
use Rattle.sms_join.specs.Inside.Slots.{sets_of}
use Rattle.sms_join.proofs.InLine.{got_within}
use Rattle.sms_join.proofs.Passing.{one_lies}
use Rattle.sms_join.proofs.Since.{since_front}
use Rattle.sms_join.proofs.Slots.{at_slot, sets_length}
use Rattle.sms_join.proofs.earliest.first_moment.Goals as goal

pub index-requires : goal.index-requires
index-requires c =
    let l = one_lies (sets_of c.args.slots.now.entries) c.in_ok-opening.field-0.now (sym c.lies.ensures ∙ c.if-not-lies.false) in
    subst (λ (n : ℕ). c.in_ok-opening.field-0.now.index < n) (sets_length c.args.slots.now.entries)
    (got_within (sets_of c.args.slots.now.entries) c.in_ok-opening.field-0.now.index l.own l.there)

pub returns : goal.returns
returns c t latest line time =
    let o = c.in_ok-opening.field-0.now in
    let sets : List SetValue = sets_of c.args.slots.now.entries in
    let l = one_lies sets o (sym c.lies.ensures ∙ c.if-not-lies.false) in
    let own = at_slot c.args.slots.now.entries o.index c.index.result.now (λ s. c.opened.result ≡ s.opened) c.requires c.index.ensures (λ k e. c.opened.ensures) l.own l.there in
    subst (λ (n : ℕ). AreSince n sets) (sym own)
    (since_front t latest c.args.line.now.items o sets l.own (omega (arith, c.in_ok-opening.ensures.variant.0 refl, c.args.line.now.ok.0)) c.in_ok-opening.ensures.lookup l.there l.turn line time)
