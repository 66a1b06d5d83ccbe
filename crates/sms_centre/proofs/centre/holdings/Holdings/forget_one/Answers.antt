use Rattle.std.proofs.Common.{◌≡◌, ◌<◌, List, Option, true, false, length, refl, sym, ap, ◌∙◌, subst, arith}
use Rattle.std.proofs.Math.ListN.{set}
use Rattle.std.proofs.lemmas.Option.{slice_get_read}
use Rattle.sms_centre.specs.declared.centre.held.Ending.{Ending}
use Rattle.sms_centre.specs.Centre.Value.{LineValue, HeldValue, HoldingsValue}
use Rattle.sms_centre.specs.Inside.Kept.{ForgetsFirst}
use Rattle.sms_centre.specs.Inside.Lines.{forgetting_line}
use Rattle.sms_centre.specs.Inside.Holdings.{AreHeld, ForgetsOne}
use Rattle.sms_centre.proofs.Lines.{changed_line, addresses_set}
use Rattle.sms_centre.proofs.Holdings.{first_within, forgotten_held, one_forgotten, lines_stay}
use Rattle.sms_centre.proofs.centre.holdings.Holdings.forget_one.Goals as goal

pub index_mut-line-requires : goal.index_mut-line-requires
index_mut-line-requires c =
    let f = subst (λ (o : Option Ending). ForgetsFirst c.args.now c.self.inside.held o c.forget_first.new.self) c.in-Some.is c.forget_first.ensures in
    let within : c.in-Some.ending.recipient < length c.self.inside.lines.items = first_within c.self.inside.held.endings c.forget_first.new.self.endings c.in-Some.ending c.self.inside.lines.items f.1 c.self.invariant.0 in
    omega (arith, within, c.self.inside.lines.ok.0)

pub invariant_of-self : goal.invariant_of-self
invariant_of-self c =
    let f = subst (λ (o : Option Ending). ForgetsFirst c.args.now c.self.inside.held o c.forget_first.new.self) c.in-Some.is c.forget_first.ensures in
    let items = c.self.inside.lines.items in
    let r = c.in-Some.ending.recipient in
    let within = first_within c.self.inside.held.endings c.forget_first.new.self.endings c.in-Some.ending items f.1 c.self.invariant.0 in
    let there = slice_get_read items (length items) r c.index_mut-line.result.now refl within c.index_mut-line.ensures.value in
    let h = changed_line items r c.index_mut-line.result.now c.forget.new.self there (λ line after. after ≡ forgetting_line c.args.now c.in-Some.ending.stamp line) c.forget.ensures in (
      forgotten_held c.args.now c.in-Some.ending c.forget_first.new.self.endings items _ f.0 h
          (subst (λ (l : List Ending). AreHeld l items) f.1 c.self.invariant.0),
      c.self.invariant.1 ∙ sym (addresses_set items r c.index_mut-line.result.now c.forget.new.self there (ap (λ (l : LineValue). l.address) c.forget.ensures)),
    )

pub returns-in-Some : goal.returns-in-Some
returns-in-Some c =
    let f = subst (λ (o : Option Ending). ForgetsFirst c.args.now c.self.inside.held o c.forget_first.new.self) c.in-Some.is c.forget_first.ensures in
    let items = c.self.inside.lines.items in
    let r = c.in-Some.ending.recipient in
    let within = first_within c.self.inside.held.endings c.forget_first.new.self.endings c.in-Some.ending items f.1 c.self.invariant.0 in
    let there = slice_get_read items (length items) r c.index_mut-line.result.now refl within c.index_mut-line.ensures.value in
    let h = changed_line items r c.index_mut-line.result.now c.forget.new.self there (λ line after. after ≡ forgetting_line c.args.now c.in-Some.ending.stamp line) c.forget.ensures in
    subst (λ (v : HoldingsValue). ForgetsOne c.args.now v true (record { held = c.forget_first.new.self; lines = set items r c.forget.new.self })) c.self.view_is
    (one_forgotten c.args.now c.in-Some.ending c.self.inside.held c.forget_first.new.self items _ f h)

pub returns-in-None : goal.returns-in-None
returns-in-None c =
    let f = subst (λ (o : Option Ending). ForgetsFirst c.args.now c.self.inside.held o c.forget_first.new.self) c.in-None.is c.forget_first.ensures in
    let items = c.self.inside.lines.items in
    subst (λ (v : HoldingsValue). ForgetsOne c.args.now v false (record { held = c.forget_first.new.self; lines = items })) c.self.view_is (
      ap (λ (h : HeldValue). record { held = h; lines = items }) f.1,
      f.0,
      f.2,
      lines_stay c.args.now c.self.inside.held.endings items f.0 c.self.invariant.0,
    )
