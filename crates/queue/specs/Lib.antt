-- The definitions that the queue's contracts cite.
pub mod Queue
pub mod Key
pub mod Sound
