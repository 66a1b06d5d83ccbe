-- How much a party puts out.
use Rattle.std.proofs.Common.{◌≡◌, ◌≤◌, refl, ℕ, suc, Bool, true, false, cond, List, [], ◌∷◌, length, Result, Ok, Err, sym, ap, ◌∙◌, subst}
use Rattle.std.specs.Prelude.{IfOk}
use Rattle.std.proofs.lemmas.List.{length-map}
use Rattle.sms_message.specs.declared.message.Message.{Message}
use Rattle.sms_message.specs.declared.outcome.Outcome.{Outcome}
use Rattle.sms_message.specs.declared.outcome.Dropped.{Dropped}
use Rattle.sms_message.specs.declared.outcome.Step.{Step}
use Rattle.sms_message.specs.Does.{Does, packets_of, CarriesEach, Puts, Answered}

-- two messages at most
abbrev pub PutsFew : {S : Type 0} → Does S → Type 0
PutsFew d = length d.put ≤ 2

-- two packets at most, where something was done
abbrev pub FewPackets : Result Step Dropped → Type 0
FewPackets result = IfOk result (λ step. length step.packets.items ≤ 2)

-- a test, whichever way it goes
pub few_either : {S : Type 0} (b : Bool) (d e : Does S) → PutsFew d → PutsFew e → PutsFew (cond b d e)
few_either true d e h k = h
few_either false d e h k = k

-- ---- as many packets as messages

as_many : (packets : List (List ℕ)) (messages : List Message) → CarriesEach packets messages → length packets ≡ length messages
as_many [] [] h = refl
as_many (p ∷ packets) (m ∷ messages) h = ap suc (as_many packets messages h.1)
as_many [] (m ∷ messages) h = absurd h
as_many (p ∷ packets) [] h = absurd h

few_carried : (step : Step) (messages : List Message) → CarriesEach (packets_of step) messages → length messages ≤ 2 → length step.packets.items ≤ 2
few_carried step messages h few =
    subst (λ n. n ≤ 2) (sym (as_many (packets_of step) messages h) ∙ length-map step.packets.items (λ packet. packet.items)) few

pub few_answered : {S : Type 0} (Stands : S → Type 0) (s : S) (d : Does S) (result : Result Step Dropped) → PutsFew d → Answered Stands s d result → FewPackets result
few_answered Stands s d (Ok step) few h = few_carried step d.put h.1 few
few_answered Stands s d (Err why) few h = tt

pub few_put : (outcome : Outcome) (messages : List Message) (result : Result Step Dropped) → length messages ≤ 2 → Puts outcome messages result → FewPackets result
few_put outcome messages (Ok step) few h = few_carried step messages h.1 few
few_put outcome messages (Err why) few h = tt
