mod Digits
mod Capped
mod Units
mod Written
mod Fronts
