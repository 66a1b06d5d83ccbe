-- A line is kept, and how results say so.
use Rattle.std.proofs.Common.{◌≡◌, inr, ℕ, Bool, true, false, List, [], Option, OnErr, OnOk, Result, Ok, Err, sym, refl, subst}
use Rattle.std.specs.Prelude.{MatchBool}
use Rattle.sms_page.specs.Page.{PageValue}
use Rattle.sms_feed.specs.Takers.{Standing, standing}
use Rattle.sms_work.specs.Working.{WorksToEnd, WorksInPart}
use Rattle.sms_kept.specs.Keeping.{Keeping, KeptValue, KeepsOne, KeepsLast, KeepsLine, FailsLast, FailsLine, MayPut, PutsState, TakesOne, is_due, is_passed_over}

match_true : (b : Bool) (P Q : Type 0) → b ≡ true → P → MatchBool b P Q
match_true b P Q e p = subst (λ c. MatchBool c P Q) (sym e) p

match_false : (b : Bool) (P Q : Type 0) → b ≡ false → Q → MatchBool b P Q
match_false b P Q e q = subst (λ c. MatchBool c P Q) (sym e) q

pub passed_over : {T F : Type 0} (k : Keeping T F) (old : Standing (KeptValue T F)) (n : ℕ) (line : Option (List ℕ))
    → is_passed_over n old.taker.taken ≡ true → KeepsLine k old n line old
passed_over k old n line e = match_true (is_passed_over n old.taker.taken) (old ≡ old) (KeepsOne k old n line old) e refl

pub due : {T F : Type 0} (k : Keeping T F) (old : Standing (KeptValue T F)) (n : ℕ) (line : Option (List ℕ)) (between new : Standing (KeptValue T F))
    → is_passed_over n old.taker.taken ≡ false → TakesOne k old n line between → is_due between.taker.taken between.taker.every ≡ true
    → PutsState k (k.state between.taker.taker between.taker.taken) between new → KeepsLine k old n line new
due k old n line between new e takes d puts =
    match_false (is_passed_over n old.taker.taken) (new ≡ old) (KeepsOne k old n line new) e (record {
      between = between;
      takes = takes;
      puts = match_true (is_due n old.taker.every) (PutsState k (k.state between.taker.taker n) between new) (new ≡ between)
          (subst (λ m. is_due m old.taker.every ≡ true) takes.taken (subst (λ v. is_due between.taker.taken v ≡ true) takes.every d))
          (subst (λ m. PutsState k (k.state between.taker.taker m) between new) takes.taken puts);
    })

pub not_due : {T F : Type 0} (k : Keeping T F) (old : Standing (KeptValue T F)) (n : ℕ) (line : Option (List ℕ)) (between : Standing (KeptValue T F))
    → is_passed_over n old.taker.taken ≡ false → TakesOne k old n line between → is_due between.taker.taken between.taker.every ≡ false
    → KeepsLine k old n line between
not_due k old n line between e takes d =
    match_false (is_passed_over n old.taker.taken) (between ≡ old) (KeepsOne k old n line between) e (record {
      between = between;
      takes = takes;
      puts = match_false (is_due n old.taker.every) (PutsState k (k.state between.taker.taker n) between between) (between ≡ between)
          (subst (λ m. is_due m old.taker.every ≡ false) takes.taken (subst (λ v. is_due between.taker.taken v ≡ false) takes.every d)) refl;
    })

pub not_put : {T F : Type 0} (k : Keeping T F) (old : Standing (KeptValue T F)) (n : ℕ) (line : Option (List ℕ)) (between new : Standing (KeptValue T F))
    → TakesOne k old n line between → MayPut k (k.state between.taker.taker between.taker.taken) between new → FailsLine k old n line new
not_put k old n line between new takes may =
    inr (between, takes, subst (λ m. MayPut k (k.state between.taker.taker m) between new) takes.taken may)

pub ends_put : {T F : Type 0} (k : Keeping T F) (v now : KeptValue T F) (w : Option (List ℕ)) (page : PageValue) (t : T) (page_then : PageValue) (new : Standing (KeptValue T F))
    → v ≡ now → k.ends v.taker page t page_then → PutsState k (k.state t v.taken) (standing (record v { taker = t }) w page_then) new → KeepsLast k (standing now w page) new
ends_put k v now w page t page_then new e ends puts = subst (λ n. KeepsLast k (standing n w page) new) e (record {
  between = standing (record v { taker = t }) w page_then;
  ends = record { ends = ends; written = refl; same = refl };
  puts = puts;
})

pub ends_not_put : {T F : Type 0} (k : Keeping T F) (v now : KeptValue T F) (w : Option (List ℕ)) (page : PageValue) (t : T) (page_then : PageValue) (new : Standing (KeptValue T F))
    → v ≡ now → k.ends v.taker page t page_then → MayPut k (k.state t v.taken) (standing (record v { taker = t }) w page_then) new → FailsLast k (standing now w page) new
ends_not_put k v now w page t page_then new e ends may = subst (λ n. FailsLast k (standing n w page) new) e
    (inr (standing (record v { taker = t }) w page_then, record { ends = ends; written = refl; same = refl }, may))

pub on_ok : {A E : Type 0} (r : Result A E) (P Q : Type 0) → (P → Q) → OnOk r P → OnOk r Q
on_ok (Ok a) P Q f p = f p
on_ok (Err e) P Q f p = p

pub on_err : {A E : Type 0} (r : Result A E) (P Q : Type 0) → (P → Q) → OnErr r P → OnErr r Q
on_err (Ok a) P Q f p = p
on_err (Err e) P Q f p = f p

pub of_ok : {A E : Type 0} (r : Result A E) (P : Type 0) → P → OnOk r P
of_ok (Ok a) P p = p
of_ok (Err e) P p = tt

pub of_err : {A E : Type 0} (r : Result A E) (P : Type 0) → P → OnErr r P
of_err (Ok a) P p = tt
of_err (Err e) P p = p

abbrev pub empty : PageValue
empty = record { octets = []; is_cut = false }

-- no more stands on the page where the state was put
pub with_empty : {T F : Type 0} (k : Keeping T F) (t : KeptValue T F) (w : Option (List ℕ)) (first : PageValue) (ls : List (List ℕ)) (new : KeptValue T F) (w2 : Option (List ℕ)) (p2 : PageValue)
    → first ≡ empty → WorksToEnd (KeepsLine k) (KeepsLast k) (standing t w first) 0 ls (standing new w2 p2)
    → WorksToEnd (KeepsLine k) (KeepsLast k) (standing t w empty) 0 ls (standing new w2 empty)
with_empty k t w first ls new w2 p2 e h =
    subst (λ f. WorksToEnd (KeepsLine k) (KeepsLast k) (standing t w f) 0 ls (standing new w2 empty)) e
    (subst (λ q. WorksToEnd (KeepsLine k) (KeepsLast k) (standing t w first) 0 ls (standing new w2 q)) h.at_last.puts.page h)

pub from_empty : {T F : Type 0} (k : Keeping T F) (t : KeptValue T F) (w : Option (List ℕ)) (first : PageValue) (ls : List (List ℕ)) (new : Standing (KeptValue T F))
    → first ≡ empty → WorksInPart (KeepsLine k) (FailsLine k) (FailsLast k) (standing t w first) 0 ls new
    → WorksInPart (KeepsLine k) (FailsLine k) (FailsLast k) (standing t w empty) 0 ls new
from_empty k t w first ls new e h = subst (λ f. WorksInPart (KeepsLine k) (FailsLine k) (FailsLast k) (standing t w f) 0 ls new) e h
