use Rattle.std.proofs.Common.{◌++◌, List, [], ◌∷◌, refl, sym, ap, ◌∙◌, subst, Ok, Err}
use Rattle.std.specs.Str.{chars}
use Rattle.std.specs.String.{string_bytes}
use Rattle.sms_join.specs.declared.offer.Offer.{Offer}
use Rattle.sms_join.specs.declared.offer.OfferFault.{OfferFault}
use Rattle.sms_join.specs.Piece.{Piece, piece_of}
use Rattle.sms_join.specs.Joiner.Offering.{Says}
use Rattle.sms_message.specs.declared.outcome.Step.{Step}
use Rattle.sms_message.specs.declared.outcome.Outcome.TheVariants as outcome
use Rattle.sms_party.specs.Receiver.State.{Entry}
use Rattle.sms_party.specs.Receiver.Standing.{ReceiverValue, StandsFor}
use Rattle.sms_party.proofs.Storing.{Room, same_value, is_over, is_repeated, is_kept, is_stored}
use Rattle.sms_party.proofs.receiver.Receiver.offer.Goals as goal

pub returns-in-Ok-Repeat-clause-steps : goal.returns-in-Ok-Repeat-clause-steps
returns-in-Ok-Repeat-clause-steps c = λ limits s origin stands.
    let p : Piece = piece_of c.args.now c.args.origin c.args.stamp c.args.concat c.args.units in
    let v : ReceiverValue = record { limit = c.self.inside.limit; joiner = c.self.inside.joiner; store = c.self.inside.store.items } in
    let step : Step = record { outcome = outcome.Repeat; packets = c.in_ok-packets.packets } in
    is_repeated c.laws_of_joiners.ensures limits v s
    (subst (λ (w : ReceiverValue). StandsFor limits w s) (sym c.self.view_is) stands) p c.args.tag c.args.origin origin
    (subst (λ (w : ReceiverValue). Room w p) (sym c.self.view_is) c.requires.room)
    (record { limit = c.self.inside.limit; joiner = c.offer.new.self; store = c.make_room.new.store.items }) refl c.in-Ok-Repeat.ensures.limits c.in-Ok-Repeat.ensures.holds
    step refl c.in_ok-packets.ensures.carries c.in_ok-make_room.ensures.items
    (subst (λ (o : Offer). Says c.self.inside.joiner.open_max c.self.inside.joiner.holds p (Ok o)) c.in-Ok-Repeat.field-0-is c.in-Ok-Repeat.ensures.says)

pub returns-in-Ok-Kept-clause-steps : goal.returns-in-Ok-Kept-clause-steps
returns-in-Ok-Kept-clause-steps c = λ limits s origin stands.
    let p : Piece = piece_of c.args.now c.args.origin c.args.stamp c.args.concat c.args.units in
    let v : ReceiverValue = record { limit = c.self.inside.limit; joiner = c.self.inside.joiner; store = c.self.inside.store.items } in
    let step : Step = record { outcome = outcome.Kept; packets = c.in_ok-packets.packets } in
    is_kept c.laws_of_joiners.ensures limits v s
    (subst (λ (w : ReceiverValue). StandsFor limits w s) (sym c.self.view_is) stands) p c.args.tag c.args.origin origin
    (subst (λ (w : ReceiverValue). Room w p) (sym c.self.view_is) c.requires.room)
    (record { limit = c.self.inside.limit; joiner = c.offer.new.self; store = c.make_room.new.store.items }) refl c.in-Ok-Kept.ensures.limits c.in-Ok-Kept.ensures.holds
    step refl c.in_ok-packets.ensures.carries c.in_ok-make_room.ensures.items
    (subst (λ (o : Offer). Says c.self.inside.joiner.open_max c.self.inside.joiner.holds p (Ok o)) c.in-Ok-Kept.field-0-is c.in-Ok-Kept.ensures.says)

pub returns-in-Ok-Finished-clause-steps : goal.returns-in-Ok-Finished-clause-steps
returns-in-Ok-Finished-clause-steps c = λ limits s origin stands.
    let p : Piece = piece_of c.args.now c.args.origin c.args.stamp c.args.concat c.args.units in
    let v : ReceiverValue = record { limit = c.self.inside.limit; joiner = c.self.inside.joiner; store = c.self.inside.store.items } in
    let step : Step = record { outcome = outcome.Finished; packets = c.in_ok-packets.packets } in
    is_stored c.laws_of_joiners.ensures limits v s
    (subst (λ (w : ReceiverValue). StandsFor limits w s) (sym c.self.view_is) stands) p c.args.tag c.args.origin origin
    (subst (λ (w : ReceiverValue). Room w p) (sym c.self.view_is) c.requires.room)
    (record { limit = c.self.inside.limit; joiner = c.offer.new.self; store = c.push_reserved.new.self.items }) refl c.in-Ok-Finished.ensures.limits c.in-Ok-Finished.ensures.holds
    step c.in-Ok-Finished.text refl c.in_ok-packets.ensures.carries
    (c.push_reserved.ensures.items ∙ (ap (λ t. c.make_room.new.store.items ++ record { origin = c.args.origin; characters = chars (string_bytes t) } ∷ []) c.in-Ok-Finished.text-is
    ∙ ap (λ (l : List Entry). l ++ record { origin = c.args.origin; characters = chars (string_bytes c.in-Ok-Finished.text) } ∷ []) c.in_ok-make_room.ensures.items))
    (subst (λ (o : Offer). Says c.self.inside.joiner.open_max c.self.inside.joiner.holds p (Ok o)) c.in-Ok-Finished.field-0-is c.in-Ok-Finished.ensures.says)

pub returns-in-Err-TooManyOpen-clause-steps : goal.returns-in-Err-TooManyOpen-clause-steps
returns-in-Err-TooManyOpen-clause-steps c = λ limits s origin stands.
    let p : Piece = piece_of c.args.now c.args.origin c.args.stamp c.args.concat c.args.units in
    let v : ReceiverValue = record { limit = c.self.inside.limit; joiner = c.self.inside.joiner; store = c.self.inside.store.items } in
    is_over c.laws_of_joiners.ensures limits v s
    (subst (λ (w : ReceiverValue). StandsFor limits w s) (sym c.self.view_is) stands) p c.args.tag c.args.origin origin
    (subst (λ (w : ReceiverValue). Room w p) (sym c.self.view_is) c.requires.room)
    (record { limit = c.self.inside.limit; joiner = c.offer.new.self; store = c.make_room.new.store.items })
    c.no_room.result
    (subst (λ (f : OfferFault). Says c.self.inside.joiner.open_max c.self.inside.joiner.holds p (Err f)) c.in-Err-TooManyOpen.field-0-is c.in-Err-TooManyOpen.ensures.says)
    (same_value c.self.inside.limit _ _ _ _ c.in-Err-TooManyOpen.ensures.refused c.in_ok-make_room.ensures.items)
    c.no_room.ensures
