-- Steps of the code; no public function cites one.
pub mod Parting
pub mod Sharing
