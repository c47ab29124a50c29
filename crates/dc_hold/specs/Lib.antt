-- What a hold's calls may come to, and what a program in C gets of it in numbers.
pub mod Numbers
pub mod Tells
pub mod Fitting
pub mod Buffers
pub mod Allowed
pub mod Whereabouts
pub mod Pages
pub mod Trails
