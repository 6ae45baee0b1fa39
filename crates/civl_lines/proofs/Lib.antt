mod Within
mod Fitting
