pub mod CallToken
pub mod Challenge
pub mod Md5Answer
