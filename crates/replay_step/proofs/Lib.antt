-- Laws of what the bits at a place say. Assumes nothing.
pub mod Marks
