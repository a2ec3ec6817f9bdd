mod Estimates
mod Warnings
