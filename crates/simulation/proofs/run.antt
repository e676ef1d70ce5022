pub mod Loop
pub mod Answer
