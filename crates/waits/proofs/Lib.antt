mod Bounds
mod Laws
