-- Before an input is told to give no line, what stands on the page is written.
use Rattle.std.specs.Prelude.{◌≡◌, ℕ, true, List, ⊤, Option}
use Rattle.std.specs.Io.KnownBytes.{Appends}
use Rattle.sms_page.specs.declared.page.PageFault.TheVariants.{Output, Memory}
use Rattle.sms_page.specs.Page.{PageValue}
use Rattle.sms_feed.specs.declared.fault.FeedFault.{FeedFault}
use Rattle.sms_feed.specs.declared.fault.FeedFault.TheVariants.{Page, Read}

-- Where memory had run out for the page, and where the input fails, what stood on the page is
-- written; nothing is said of an output that failed.
abbrev pub IsTold : FeedFault → Option (List ℕ) → PageValue → Option (List ℕ) → Type 0
IsTold (Page (Output error)) written page written_then = ⊤
IsTold (Page Memory) written page written_then =
    (page.is_cut ≡ true) × Appends written written_then page.octets
IsTold (Read error) written page written_then = Appends written written_then page.octets
