-- The status that a call answers.
use Rattle.std.proofs.Common.{◌≡◌, ℕ, ◌⊎◌, inl, inr, Result, Ok, Err, refl, sym, ap, subst, ◌∙◌}
use Rattle.sms_c.specs.Answered.{Answers, AnswersSo, Fails}
use Rattle.sms_c.specs.Status.{status_of, status_in}
use Rattle.sms_c.specs.declared.status.Failure.{Failure}
use Rattle.sms_c.specs.declared.status.Failure.TheVariants.{Memory, NoRoom}

with_room : (got : Failure) (status : ℕ) → status ≡ status_of got → (got ≡ NoRoom) ⊎ (got ≡ Memory) → (status ≡ 0) ⊎ ((status ≡ 3) ⊎ (status ≡ 2))
with_room got status is (inl same) = inr (inl (is ∙ ap status_of same))
with_room got status is (inr same) = inr (inr (is ∙ ap status_of same))

without : (why got : Failure) (status : ℕ) → status ≡ status_of got → (got ≡ why) ⊎ (got ≡ Memory) → (status ≡ status_of why) ⊎ (status ≡ 2)
without why got status is (inl same) = inl (is ∙ ap status_of same)
without why got status is (inr same) = inr (is ∙ ap status_of same)

pub answers : {T : Type 0} (known : Result T Failure) (answer : Result (Unit {0}) Failure) (status : ℕ) → status ≡ status_in answer → AnswersSo known answer → Answers known status
answers (Ok _) (Ok _) status is so = inl is
answers (Ok _) (Err got) status is so = with_room got status is so
answers (Err why) (Ok _) status is so = absurd so
answers (Err why) (Err got) status is so = without why got status is so

abbrev pub known_value : {T : Type 0} → T → Result T Failure
known_value value = Ok value

pub handed : {T : Type 0} (known : Result T Failure) (value : T) → known ≡ Ok value → (answer : Result (Unit {0}) Failure) → ((why : Failure) → answer ≡ Err why → why ≡ NoRoom) → AnswersSo known answer
handed known value is (Ok _) lack = subst (λ (k : Result _ Failure). AnswersSo {S = Unit {0}} k (Ok tt)) (sym is) tt
handed known value is (Err why) lack = subst (λ (k : Result _ Failure). AnswersSo {S = Unit {0}} k (Err why)) (sym is) (inl (lack why refl))

pub failed : {T : Type 0} (known : Result T Failure) (got : Failure) (answer : Result (Unit {0}) Failure) → answer ≡ Err got → Fails known got → AnswersSo known answer
failed known got (Ok _) is so = absurd cc
failed known got (Err why) is so = let same : got ≡ why = cc in subst (λ (f : Failure). Fails known f) same so
