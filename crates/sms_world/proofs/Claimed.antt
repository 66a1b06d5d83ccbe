-- The claims of a world are those of the states for which it stands.
use Rattle.std.proofs.Common.{◌≡◌, ℕ, zero, suc, ◌-◌, ◌≤◌, Bool, true, false, List, [], ◌∷◌, ◌++◌, reverse, Some, refl, sym, ap, ◌∙◌, subst, arith, Contains, ◌⊎◌, inl, inr}
use Rattle.std.specs.List.{slice_get}
use Rattle.std.proofs.lemmas.List.{reverse-append}
use Rattle.std.proofs.lemmas.List.Elements.{Contains-append_cases}
use Rattle.sms_party.specs.declared.sender.Status.{Status}
use Rattle.sms_party.specs.declared.sender.Status.TheVariants.{Accepted}
use Rattle.sms_party.specs.Sender.Stands.{status_if, statuses_of}
use Rattle.sms_party.specs.Sender.Value.{all_waiting, status_among}
use Rattle.sms_party.specs.Sender.Ended.{IsTypedAt, EndedAreTyped}
use Rattle.sms_party.specs.Sender.Texts.{size_of}
use Rattle.sms_world.proofs.Called.{ended_typed}
use Rattle.sms_world.specs.Accepted.{IsHonestAt, AcceptedIsAccepted}
use Rattle.sms_world.specs.Accepted.Reject.{OnlyTimeIsLeft}
use Rattle.sms_world.specs.Headline.Finished.{FinishedTexts}
use Rattle.sms_world.specs.Headline.Once.{AcceptedAtMostOnce}
use Rattle.sms_world.specs.Headline.Refused.{RefusedOnlyWhereFull}
use Rattle.sms_world.specs.Headline.Stores.{StoresStand}
use Rattle.sms_world.specs.World.Claims.{ClaimsHold}
use Rattle.sms_world.proofs.Entries.{contains_here, contains_more, contains_cases, contains_none}
use Rattle.sms_world.proofs.Shown.{store_stands, statuses_stand}

-- ---- the status of a text that has ended

-- those that ended, the first typed first
ended_first : List (ℕ × Bool) → List Status
ended_first [] = []
ended_first (e ∷ rest) = status_if e.1 ∷ ended_first rest

ended_more : (xs : List (ℕ × Bool)) (e : ℕ × Bool) → ended_first (xs ++ e ∷ []) ≡ ended_first xs ++ status_if e.1 ∷ []
unfolding ended_first
ended_more [] e = refl
ended_more (x ∷ xs) e = ap (λ l. status_if x.1 ∷ l) (ended_more xs e)

in_order : (ended : List (ℕ × Bool)) → statuses_of ended ≡ ended_first (reverse ended)
unfolding ended_first
in_order [] = refl
in_order (e ∷ ended) =
    ap (λ l. l ++ status_if e.1 ∷ []) (in_order ended) ∙ sym (ended_more (reverse ended) e) ∙ ap ended_first (sym (reverse-append (e ∷ []) ended))

none_waits : {X : Type 0} (pending : List X) (number : ℕ) → status_among (all_waiting pending) number ≡ Some Accepted → ⊥
none_waits [] number e = absurd cc
none_waits (x ∷ pending) zero e = absurd cc
none_waits (x ∷ pending) (suc zero) e = absurd cc
none_waits (x ∷ pending) (suc (suc n)) e = none_waits pending (suc n) e

is_good : (b : Bool) → status_if b ≡ Accepted → b ≡ true
is_good true e = refl
is_good false e = absurd cc

-- the text of this number
record HasEnded (rest : List (ℕ × Bool)) (number : ℕ) : Type 0 where
  text : ℕ
  place : ℕ
  number_is : number ≡ suc place
  is_there : slice_get rest place ≡ Some (text, true)

has_ended : {X : Type 0} (rest : List (ℕ × Bool)) (pending : List X) (number : ℕ) → status_among (ended_first rest ++ all_waiting pending) number ≡ Some Accepted → HasEnded rest number
unfolding ended_first
has_ended [] pending number e = absurd (none_waits pending number e)
has_ended (x ∷ rest) pending zero e = absurd cc
has_ended (x ∷ rest) pending (suc zero) e =
    let good : x.1 ≡ true = is_good x.1 cc in
    record { text = x.0; place = 0; number_is = refl; is_there = ap (λ b. Some (x.0, b)) good }
has_ended (x ∷ rest) pending (suc (suc n)) e =
    let h = has_ended rest pending (suc n) e in
    record { text = h.text; place = suc h.place; number_is = ap suc h.number_is; is_there = h.is_there }

there_contains : {X : Type 0} (xs : List X) (i : ℕ) (y : X) → slice_get xs i ≡ Some y → Contains xs y
there_contains [] i y e = absurd cc
there_contains (x ∷ xs) zero y e = let same : x ≡ y = cc in subst (Contains (x ∷ xs)) same (contains_here x xs)
there_contains (x ∷ xs) (suc i) y e = contains_more x xs y (there_contains xs i y e)

one_or_more : {X : Type 0} (x : X) (xs : List X) (y : X) → (Contains (reverse xs) y → Contains xs y) → Contains (reverse xs) y ⊎ Contains (x ∷ []) y → Contains (x ∷ xs) y
one_or_more x xs y others (inl k) = contains_more x xs y (others k)
one_or_more x xs y others (inr k) = here (contains_cases x [] y k)
  where
    here : (x ≡ y) ⊎ Contains [] y → Contains (x ∷ xs) y
    here (inl same) = subst (Contains (x ∷ xs)) same (contains_here x xs)
    here (inr none) = absurd (contains_none y none)

reversed_contains : {X : Type 0} (xs : List X) (y : X) → Contains (reverse xs) y → Contains xs y
reversed_contains [] y h = h
reversed_contains (x ∷ xs) y h =
    one_or_more x xs y (λ k. reversed_contains xs y k) (Contains-append_cases (reverse xs) (x ∷ []) y (subst (λ l. Contains l y) (reverse-append (x ∷ []) xs) h))

-- ---- the claims

pub claims : StoresStand → FinishedTexts → RefusedOnlyWhereFull → AcceptedAtMostOnce → AcceptedIsAccepted → OnlyTimeIsLeft → EndedAreTyped → ClaimsHold
claims stand finished refused once accepted copies typed_first =
    record {
      whole = λ world limits phones past m run h phone within.
          record { as_typed = store_stands world m phone within h ∙ ap reverse (stand limits phones past m run phone); finished = finished limits phones past m run phone };
      refused = λ event old told new steps limits phones past m run h orderly.
          let s = steps m h in
          (s.0, s.1, s.3, (s.4, s.5, s.6), refused limits phones past m run event orderly told s.0 s.1 s.2);
      once = λ world limits phones past m run h. once limits phones past m run;
      accepted = λ world limits phones past m phone run h number within shown.
          let ended = (m.senders.sender phone).ended in
          let same : status_among (ended_first (reverse ended) ++ all_waiting (m.senders.sender phone).pending) number ≡ Some Accepted =
          ap (λ l. status_among (l ++ all_waiting (m.senders.sender phone).pending) number) (sym (in_order ended)) ∙ (sym (statuses_stand world m phone number within h) ∙ shown) in
          let k = has_ended (reverse ended) (m.senders.sender phone).pending number same in
          let typed : IsTypedAt m.senders.texts phone number k.text =
          subst (λ i. IsTypedAt m.senders.texts phone i k.text) (sym k.number_is) (ended_typed (IsHonestAt phone) typed_first limits phones past m run phone k.place k.text true k.is_there) in
          let place : k.place ≡ number - 1 = let e = k.number_is in omega (arith, e) in (
            k.text,
            record {
              typed = typed;
              ended = subst (λ i. slice_get (reverse ended) i ≡ Some (k.text, true)) place k.is_there;
              accepted = λ s from most. accepted limits phones past m phone run k.text (reversed_contains ended (k.text, true) (there_contains (reverse ended) k.place (k.text, true) k.is_there)) s from
                  (subst (λ i. s ≤ i) (sym (ap size_of typed.typed)) most);
            },
          );
      copies = λ world limits phones past m rejects run h. copies limits phones past m rejects run;
    }
