-- What is written and put is not lost where the page is written.
use Rattle.std.proofs.Common.{◌≡◌, ℕ, Bool, false, List, [], Option, None, Some, sym, refl, ◌∙◌, append-nil}
use Rattle.std.specs.Io.KnownBytes.{Appends, Keeps}
use Rattle.sms_page.specs.Page.{PageValue}
use Rattle.sms_feed.specs.Shown.{shown, Stays}

pub keeps_same : (known : Option (List ℕ)) → Keeps known known
keeps_same None = tt
keeps_same (Some xs) = refl

pub stays_same : (written : Option (List ℕ)) (page : PageValue) → Stays written page written page
stays_same written page = record { octets = keeps_same (shown written page); cut = refl }

shown_written : (old new : Option (List ℕ)) (page : PageValue) (b : Bool) → Appends old new page.octets → Keeps (shown old page) (shown new (record { octets = []; is_cut = b }))
shown_written None new page b a = tt
shown_written (Some xs) None page b a = absurd a
shown_written (Some xs) (Some ys) page b a = append-nil ys ∙ a

pub stays_written : (old new : Option (List ℕ)) (page : PageValue) → page.is_cut ≡ false → Appends old new page.octets → Stays old page new (record { octets = []; is_cut = false })
stays_written old new page cut a = record { octets = shown_written old new page false a; cut = sym cut }

keeps_then : (one two three : Option (List ℕ)) → Keeps one two → Keeps two three → Keeps one three
keeps_then None two three a b = tt
keeps_then (Some xs) None three a b = absurd a
keeps_then (Some xs) (Some ys) None a b = absurd b
keeps_then (Some xs) (Some ys) (Some zs) a b = b ∙ a

pub stays_then : (w1 : Option (List ℕ)) (p1 : PageValue) (w2 : Option (List ℕ)) (p2 : PageValue) (w3 : Option (List ℕ)) (p3 : PageValue)
    → Stays w1 p1 w2 p2 → Stays w2 p2 w3 p3 → Stays w1 p1 w3 p3
stays_then w1 p1 w2 p2 w3 p3 a b = record { octets = keeps_then (shown w1 p1) (shown w2 p2) (shown w3 p3) a.octets b.octets; cut = b.cut ∙ a.cut }
