-- What stood on a page is written.
use Rattle.std.proofs.Common.{◌≡◌, ℕ, List, [], ◌++◌, Option, Some, None, refl, sym, ap, ◌∙◌, append-nil}
use Rattle.std.specs.Io.KnownBytes.{Appends, Keeps}
use Rattle.sms_page.specs.declared.page.PageFault.TheVariants.{Output, Memory}
use Rattle.sms_page.specs.Page.{PageValue}
use Rattle.sms_feed.specs.Faults.{IsTold}
use Rattle.sms_feed.specs.Shown.{shown}
use Rattle.sms_feed.specs.declared.fault.FeedFault.{FeedFault}
use Rattle.sms_feed.specs.declared.fault.FeedFault.TheVariants.{Page, Read}

pub Appends-kept : (a b c : Option (List ℕ)) (octets : List ℕ) → Appends a b octets → Keeps b c → Appends a c octets
Appends-kept None b c octets h k = tt
Appends-kept (Some xs) None c octets h k = absurd h
Appends-kept (Some xs) (Some ys) None octets h k = absurd k
Appends-kept (Some xs) (Some ys) (Some zs) octets h k = k ∙ h

-- what is shown stays so where the page is written
pub shown_written : (before old new : Option (List ℕ)) (page now then : PageValue) → Keeps (shown before page) (shown old now) → Appends old new now.octets → then.octets ≡ [] → Keeps (shown before page) (shown new then)
shown_written None old new page now then keeps appends none = tt
shown_written (Some xs) None new page now then keeps appends none = absurd keeps
shown_written (Some xs) (Some ys) None page now then keeps appends none = absurd appends
shown_written (Some xs) (Some ys) (Some zs) page now then keeps appends none = ap (λ (l : List ℕ). zs ++ l) none ∙ append-nil zs ∙ appends ∙ keeps

-- and all that stood on the page is written
pub written_since : (before old new : Option (List ℕ)) (page now : PageValue) → Keeps (shown before page) (shown old now) → Appends old new now.octets → Appends before new page.octets
written_since None old new page now keeps appends = tt
written_since (Some xs) None new page now keeps appends = absurd keeps
written_since (Some xs) (Some ys) None page now keeps appends = absurd appends
written_since (Some xs) (Some ys) (Some zs) page now keeps appends = appends ∙ keeps

pub written_all : (before old : Option (List ℕ)) (page now : PageValue) → Keeps (shown before page) (shown old now) → now.octets ≡ [] → Appends before old page.octets
written_all None old page now keeps none = tt
written_all (Some xs) None page now keeps none = absurd keeps
written_all (Some xs) (Some ys) page now keeps none = sym (append-nil ys) ∙ ap (λ (l : List ℕ). ys ++ l) (sym none) ∙ keeps

-- a fault is told as it is at the call
pub told_since : (fault : FeedFault) (before old new : Option (List ℕ)) (page now : PageValue) → now.is_cut ≡ page.is_cut → Keeps (shown before page) (shown old now) → IsTold fault old now new → IsTold fault before page new
told_since (Page (Output error)) before old new page now cut keeps told = tt
told_since (Page Memory) before old new page now cut keeps told = (sym cut ∙ told.0, written_since before old new page now keeps told.1)
told_since (Read error) before old new page now cut keeps told = written_since before old new page now keeps told

-- nothing was written yet
pub Keeps-shown : (written : Option (List ℕ)) (page : PageValue) → Keeps (shown written page) (shown written page)
Keeps-shown None page = tt
Keeps-shown (Some xs) page = refl
