pub mod Charts
mod Drawing
mod Joined
mod Laying
mod Lined
mod Placed
mod Received
mod Sending
mod Spawned
mod Starred
mod Ways
