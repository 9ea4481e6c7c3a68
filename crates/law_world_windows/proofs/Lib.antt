pub mod Legs
pub mod Counts
pub mod Sending
mod Steps
pub mod Receiving
mod ServerReceives
mod InProxySends
mod OutProxyReceives
mod ServerSends
pub mod NextRefused
pub mod OneByte
mod Hop
pub mod Pieces
pub mod Stopping
pub mod Fed
pub mod Moment
mod Servers
mod Nodes
mod HopsKept
pub mod Closing
pub mod ClientHops
mod Windowed
mod EachHop
mod HopsRecorded
