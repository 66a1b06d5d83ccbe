-- The four claims from which the headline follows, each kept by every event of an orderly run; the
-- fourth is that the stores stand (Headline.Stores).
pub mod Pieces
pub mod OpenSets
pub mod RememberedKeys
