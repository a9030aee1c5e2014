-- Laws of counting from the nearer sample, and onward from a place.
pub mod Near
pub mod Onward
