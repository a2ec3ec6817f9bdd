mod Adding
mod Answering
mod Telling
