-- What was written, and behind it what stands on the page and is to be written.
use Rattle.std.specs.Prelude.{◌≡◌, ℕ, List, Option}
use Rattle.std.specs.Io.KnownBytes.{append_known, Keeps}
use Rattle.sms_page.specs.Page.{PageValue}

abbrev pub shown : Option (List ℕ) → PageValue → Option (List ℕ)
shown written page = append_known written page.octets

-- Nothing is lost and nothing comes to it: no more is done than to write what stands on the page.
pub record Stays (written : Option (List ℕ)) (page : PageValue)
    (written_then : Option (List ℕ)) (page_then : PageValue) : Type 0 where
  pub octets : Keeps (shown written page) (shown written_then page_then)
  pub cut : page_then.is_cut ≡ page.is_cut
