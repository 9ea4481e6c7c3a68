mod Following
mod Settling
mod FormLaws
mod Memory
