mod Accepted
mod Full
mod Lines
mod Named
mod Own
mod Refusals
mod Subcommand
mod Verbs
