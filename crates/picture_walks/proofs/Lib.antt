mod Pictured
