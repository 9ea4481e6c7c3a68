mod AnswerLemmas
mod Handed
