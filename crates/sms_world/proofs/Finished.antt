-- The finished texts are just those of which every segment was taken, in the order in which they were completed.
use Rattle.std.proofs.Common.{◌≡◌, ℕ, ◌<◌, Bool, true, false, ◌||◌, eqb, List, [], ◌∷◌, refl, sym, subst, Some, Option}
use Rattle.std.specs.List.{AllByRecursion}
use Rattle.sms_world.specs.Inside.Below.{Below}
use Rattle.std.proofs.lemmas.Bool.{eqb-true}
use Rattle.sms_join.specs.Arrivals.{Arrival, has_text}
use Rattle.sms_party.specs.Sent.{nth}
use Rattle.sms_party.specs.Sender.Texts.{Text, size_of}
use Rattle.sms_world.specs.Machine.{Machine}
use Rattle.sms_world.specs.Texts.{size_in}
use Rattle.sms_world.specs.Texts.TypedTo.{IsTypedTo}
use Rattle.sms_world.specs.Texts.Finished.{finished}
use Rattle.sms_world.specs.Claims.Pieces.{HasCut}
use Rattle.sms_world.specs.Headline.Finished.{FinishedTexts}
use Rattle.sms_world.proofs.Standing.{ArrivalOf, ReceiverSound}
use Rattle.sms_world.proofs.Pieces.{some_piece}
use Rattle.sms_world.proofs.Growing.{each_nth}
use Rattle.sms_world.proofs.Completed.{done_listed, completed_distinct}
use Rattle.sms_world.proofs.Headline.{Orderly, run_orderly}

typed_there : (m : Machine) (phone : ℕ) (past : List Arrival) (n : ℕ)
    → AllByRecursion (ArrivalOf m.phones m.senders.texts m.centre.accepted phone) past → has_text past n ≡ true
    → IsTypedTo m phone n
typed_there m phone [] n h l = cc
typed_there m phone (a ∷ past) n h l = go (eqb a.text n) refl l (typed_there m phone past n h.1)
  where
    go : (b : Bool) → eqb a.text n ≡ b → (b || has_text past n) ≡ true
        → (has_text past n ≡ true → IsTypedTo m phone n) → IsTypedTo m phone n
    go true e l ih = record { text = h.0.text; typed = subst (λ i. nth m.senders.texts i ≡ Some h.0.text) (eqb-true _ _ e) h.0.found; to_phone = h.0.recipient }
    go false e l ih = ih l

pub finished_texts : Below → FinishedTexts
unfolding finished
finished_texts law limits phones past m run phone =
    record {
      typed = λ n l. typed_there m phone (m.receiver phone).taken n r.taken
          (law.whole (size_in m.senders.texts) (m.receiver phone).taken n l).1;
      complete = λ n l. (law.whole (size_in m.senders.texts) (m.receiver phone).taken n l).0;
      all = λ n t h. done_listed (size_in m.senders.texts) (m.receiver phone).taken n (some n t) h;
      once = completed_distinct law.whole (size_in m.senders.texts) (m.receiver phone).taken;
      order = law.order (size_in m.senders.texts) (m.receiver phone).taken;
    }
  where
    s : Orderly m
    s = run_orderly law limits phones past m run

    r : ReceiverSound m.limits.remembered m.phones m.senders.texts m.centre.accepted phone (m.receiver phone)
    r = s.sound.receivers phone

    some : (n : ℕ) → IsTypedTo m phone n → 0 < size_in m.senders.texts n
    some n t =
        let cut : HasCut t.text = each_nth HasCut m.senders.texts n t.text t.typed s.sound.once.texts in
        subst (λ (v : Option Text). 0 < size_of v) (sym t.typed) (some_piece t.text.width t.text.characters t.text.pieces cut.is_cut)
