-- Lines that are handed on, and a state that is kept of what takes them.
use Rattle.std.specs.Prelude.{◌≡◌, ◌⊎◌, ℕ, ◌%◌, ◌==◌, ◌&&◌, nat_lt, nat_le, Bool, true, false, List, [], Option, Some, MatchBool}
use Rattle.std.specs.Io.KnownBytes.{Appends}
use Rattle.sms_file.specs.Crash.{File, LeavesOnly, Stands}
use Rattle.sms_feed.specs.Takers.{Takes, HandsOne, Standing, standing}
use Rattle.sms_feed.specs.Takers.{Ends as TakerEnds}

-- Of a taker a state is kept in a file.
pub record KeptValue (T F : Type 0) : Type 0 where
  pub taker : T
  -- the folder of the file
  pub folder : F
  -- after how many lines the state is due each time; where that is 0, at the end alone
  pub every : ℕ
  -- how many lines of the input were taken
  pub taken : ℕ

-- What takers do, and what states and folders are, as contracts see it.
pub record Keeping (T F : Type 0) : Type 1 where
  pub takes : Takes T
  pub ends : TakerEnds T
  -- the octets of the state, by how many lines were taken
  pub state : T → ℕ → List ℕ
  pub is_known : F → Bool
  pub named : F → File
  pub may_leave : F → File → Type 0
  pub moment : F → ℕ
  pub left_since : F → ℕ → File → Type 0

abbrev pub keeping : {T F : Type 0} → Takes T → TakerEnds T → (T → ℕ → List ℕ) → (F → Bool)
    → (F → File) → (F → File → Type 0) → (F → ℕ) → (F → ℕ → File → Type 0) → Keeping T F
keeping takes ends state is_known named may_leave moment left_since = record {
  takes = takes;
  ends = ends;
  state = state;
  is_known = is_known;
  named = named;
  may_leave = may_leave;
  moment = moment;
  left_since = left_since;
}

-- whether the line of this number was taken before
abbrev pub is_passed_over : (number taken : ℕ) → Bool
is_passed_over number taken = nat_le number taken

-- whether the state is due after the line of this number
abbrev pub is_due : (number every : ℕ) → Bool
is_due number every = nat_lt 0 every && (number % every == 0)

-- the taker, with the output and the page
abbrev pub inside : {T F : Type 0} → Standing (KeptValue T F) → Standing T
inside s = standing s.taker.taker s.written s.page

-- From one to the other a crash leaves the file as it might have left it before, or this state, and
-- the state only where all that was told before is in the output.
abbrev pub MayPut : {T F : Type 0} → Keeping T F → List ℕ → Standing (KeptValue T F)
    → Standing (KeptValue T F) → Type 0
MayPut k state old new =
    k.is_known old.taker.folder ≡ true
    → LeavesOnly k.moment k.left_since old.taker.folder new.taker.folder
    (λ c. k.may_leave old.taker.folder c
    ⊎ ((c ≡ Some state) × Appends old.written new.written old.page.octets))

-- All that was told is in the output, and this state is what the file has, whole, after each crash
-- too.
pub record PutsState {T F : Type 0} (k : Keeping T F) (state : List ℕ)
    (old new : Standing (KeptValue T F)) : Type 0 where
  pub whole : old.page.is_cut ≡ false
  pub page : new.page ≡ record { octets = []; is_cut = false }
  pub written : Appends old.written new.written old.page.octets
  pub same : new.taker ≡ record (old.taker) { folder = new.taker.folder }
  pub stands : k.is_known old.taker.folder ≡ true
      → Stands k.named k.may_leave (Some state) new.taker.folder
  pub may : MayPut k state old new

-- The line is handed on, and counts as taken.
pub record TakesOne {T F : Type 0} (k : Keeping T F) (old : Standing (KeptValue T F)) (number : ℕ)
    (line : Option (List ℕ)) (new : Standing (KeptValue T F)) : Type 0 where
  pub hands : HandsOne k.takes (inside old) number line (inside new)
  pub folder : new.taker.folder ≡ old.taker.folder
  pub every : new.taker.every ≡ old.taker.every
  pub taken : new.taker.taken ≡ number

-- The line is taken, and then the state is put where it is due.
pub record KeepsOne {T F : Type 0} (k : Keeping T F) (old : Standing (KeptValue T F)) (number : ℕ)
    (line : Option (List ℕ)) (new : Standing (KeptValue T F)) : Type 0 where
  pub between : Standing (KeptValue T F)
  pub takes : TakesOne k old number line between
  pub puts : MatchBool (is_due number old.taker.every)
      (PutsState k (k.state between.taker.taker number) between new) (new ≡ between)

-- A line that was taken before is passed over.
abbrev pub KeepsLine : {T F : Type 0} → Keeping T F → Standing (KeptValue T F) → ℕ
    → Option (List ℕ) → Standing (KeptValue T F) → Type 0
KeepsLine k old number line new =
    MatchBool (is_passed_over number old.taker.taken) (new ≡ old) (KeepsOne k old number line new)

-- The taker ends.
pub record EndsTaking {T F : Type 0} (k : Keeping T F) (old new : Standing (KeptValue T F))
    : Type 0 where
  pub ends : k.ends old.taker.taker old.page new.taker.taker new.page
  pub written : new.written ≡ old.written
  pub same : new.taker ≡ record (old.taker) { taker = new.taker.taker }

-- The taker ends, and then the state is put.
pub record KeepsLast {T F : Type 0} (k : Keeping T F) (old new : Standing (KeptValue T F))
    : Type 0 where
  pub between : Standing (KeptValue T F)
  pub ends : EndsTaking k old between
  pub puts : PutsState k (k.state between.taker.taker old.taker.taken) between new

-- Where a line fails, the folder stands as before, or the line was taken and the state may be put.
abbrev pub FailsLine : {T F : Type 0} → Keeping T F → Standing (KeptValue T F) → ℕ
    → Option (List ℕ) → Standing (KeptValue T F) → Type 0
FailsLine k old number line new =
    (new.taker.folder ≡ old.taker.folder)
    ⊎ ((between : Standing (KeptValue _ _)) × TakesOne k old number line between
    × MayPut k (k.state between.taker.taker number) between new)

-- Where the end fails, the folder stands as before, or the taker ended and the state may be put.
abbrev pub FailsLast : {T F : Type 0} → Keeping T F → Standing (KeptValue T F)
    → Standing (KeptValue T F) → Type 0
FailsLast k old new =
    (new.taker.folder ≡ old.taker.folder)
    ⊎ ((between : Standing (KeptValue _ _)) × EndsTaking k old between
    × MayPut k (k.state between.taker.taker old.taker.taken) between new)
