-- Laws of the listing.
pub mod Listed
pub mod Numbers
pub mod Cursors
pub mod FirstPlaces
pub mod Noted
pub mod Ways
pub mod Placed
pub mod Placing
