-- What contracts and definitions of crates that read `constants::scale_numbers` cite.
pub mod Scales
