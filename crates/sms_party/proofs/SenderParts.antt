-- What a sender puts out, in packets.
use Rattle.std.proofs.lemmas.Bool.Decides.{nat_tests}
use Rattle.std.proofs.Common.{◌≡◌, ◌≢◌, ◌==◌, arith, ℕ, suc, Bool, true, false, List, [], ◌∷◌, ◌++◌, map, drop, length, not, Option, Some, None, refl, sym, ap, ◌∙◌, subst}
use Rattle.std.specs.Option.{option_to_list, is_some}
use Rattle.std.specs.List.{slice_get}
use Rattle.sms_message.specs.declared.message.Message.{Message}
use Rattle.sms_message.specs.declared.outcome.Step.{Step}
use Rattle.sms_message.specs.Does.{CarriesEach, packets_of}
use Rattle.sms_message.specs.More.{is_more}

carries_both : (ps qs : List (List ℕ)) (ms ns : List Message) → CarriesEach ps ms → CarriesEach qs ns → CarriesEach (ps ++ qs) (ms ++ ns)
carries_both [] qs [] ns h k = k
carries_both [] qs (m ∷ ms) ns h k = absurd h
carries_both (p ∷ ps) qs [] ns h k = absurd h
carries_both (p ∷ ps) qs (m ∷ ms) ns h k = (h.0, carries_both ps qs ms ns h.1 k)

map_both : {X : Type 0} (f : X → List ℕ) (xs ys : List X) → map f (xs ++ ys) ≡ map f xs ++ map f ys
map_both f [] ys = refl
map_both f (x ∷ xs) ys = ap (λ l. f x ∷ l) (map_both f xs ys)

-- one packet after another
pub carried : {X : Type 0} (f : X → List ℕ) (packets : List X) (note sub : Option X) (ms ns : List Message) → packets ≡ option_to_list note ++ option_to_list sub
    → CarriesEach (map f (option_to_list note)) ms → CarriesEach (map f (option_to_list sub)) ns → CarriesEach (map f packets) (ms ++ ns)
carried f packets note sub ms ns e h k =
    subst (λ (ps : List (List ℕ)). CarriesEach ps (ms ++ ns)) (sym (map_both f (option_to_list note) (option_to_list sub)) ∙ ap (map f) (sym e))
    (carries_both (map f (option_to_list note)) (map f (option_to_list sub)) ms ns h k)

-- whether there is one
pub is_out : {X : Type 0} (f : X → List ℕ) (sub : Option X) (ms : List Message) → CarriesEach (map f (option_to_list sub)) ms → is_some sub ≡ is_more ms
is_out f None [] h = refl
is_out f None (m ∷ ms) h = absurd h
is_out f (Some p) [] h = absurd h
is_out f (Some p) (m ∷ ms) h = refl

is_positive : (n : ℕ) → (suc n == 0) ≡ false
is_positive n = grind (arith, nat_tests)

-- whether there are any
pub are_out : {X : Type 0} (f : X → List ℕ) (packets : List X) (ms : List Message) (none : Bool) → none ≡ (length packets == 0) → CarriesEach (map f packets) ms → not none ≡ is_more ms
are_out f [] [] none e h = ap not e
are_out f [] (m ∷ ms) none e h = absurd h
are_out f (p ∷ ps) [] none e h = absurd h
are_out f (p ∷ ps) (m ∷ ms) none e h = ap not (e ∙ is_positive (length ps))

pub second_first : {X : Type 0} (xs : List X) → slice_get xs 1 ≡ slice_get (drop 1 xs) 0
second_first [] = refl
second_first (x ∷ []) = refl
second_first (x ∷ (y ∷ ys)) = refl

pub is_some_number : (n m : ℕ) (b : Bool) → b ≡ (n == 0) → b ≡ false → n ≡ m → m ≢ 0
is_some_number n m b e f g = let h : (n == 0) ≡ false = sym e ∙ f in grind (arith, nat_tests)

pub is_none : (n m : ℕ) (b : Bool) → b ≡ (n == 0) → b ≡ true → n ≡ m → m ≡ 0
is_none n m b e f g = let h : (n == 0) ≡ true = sym e ∙ f in grind (arith, nat_tests)

pub no_packets : (step : Step) → step.packets.items ≡ [] → CarriesEach (packets_of step) []
no_packets step e = rw e tt
