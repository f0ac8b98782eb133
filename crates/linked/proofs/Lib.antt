-- The functions of C in an environment that has all their code.
pub mod Linked
