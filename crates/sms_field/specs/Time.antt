-- Time stamps, their dates and moments, and validity periods.
pub mod Computed
pub mod Days
pub mod Moment
pub mod Stamp
pub mod StampDate
pub mod Stamping
pub mod Validity
